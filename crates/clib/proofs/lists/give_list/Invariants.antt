use Rattle.std.proofs.Common.{◌≡◌, ℕ, ◌≤◌, List, length, take, drop}
use Rattle.scheme.specs.Meaning.{Meaning}
use Rattle.graph.specs.Advance.{State}
use Rattle.heap.specs.Effects.{View}
use Rattle.heap.specs.Views.{view}
use Rattle.clib.specs.declared.forms.CallWords.{CallWords}
use Rattle.clib.specs.Forms.{answers}
use Rattle.clib.specs.Turns.{StandsAt}
use Rattle.clib.proofs.lists.give_list.Given as goal

abbrev pub invariant-loop-i : goal.invariant-loop-i
invariant-loop-i g l =
    let m : Meaning = g.S.Scheme.meaning l.initial.heap.scheme in
    let before : View = view g.M.Memory.words l.initial.heap in
    let after : View = view g.M.Memory.words l.heap in
    let W : ℕ = l.initial.heap.bounds.limit in
    let so_far : List CallWords = take l.i l.calls in
    record {
      told : (st : State) → StandsAt m before st → take l.i l.answers ≡ (answers m W so_far st).0;
      stands : (st : State) → StandsAt m before st → StandsAt m after (answers m W so_far st).1;
      later : (st : State) → StandsAt m before st → drop W after.words ≡ drop W before.words;
      limit : l.heap.bounds.limit ≡ W;
      scheme : l.heap.scheme ≡ l.initial.heap.scheme;
      behind : (k : ℕ) → l.i ≤ k → drop k l.answers ≡ drop k l.initial.answers;
      room : length l.answers ≡ length l.initial.answers;
    }
