use Rattle.std.proofs.Common.{◌≡◌, ℕ, ◌+◌, ◌<◌, List, [], ◌∷◌, ◌++◌, length, get_or, take, sym, ap, ◌∙◌, subst, ap₂, arith}
use Rattle.std.proofs.lemmas.List.{take_more, take_more_set, drop-set-lt, length-set, get_or-take, length-take-le}
use Rattle.scheme.specs.Meaning.{Meaning}
use Rattle.graph.specs.Advance.{State}
use Rattle.heap.specs.Views.{view}
use Rattle.clib.specs.declared.forms.CallWords.{CallWords}
use Rattle.clib.specs.declared.forms.Answer.{Answer}
use Rattle.clib.specs.Forms.{answers}
use Rattle.clib.specs.Turns.{StandsAt, Answers}
use Rattle.clib.proofs.Runs.{told_push, one_more}
use Rattle.clib.proofs.lists.give_list.Goals as goal

pub loop-i-preserved : goal.loop-i-preserved
loop-i-preserved g c =
    let inv = c.loop-i.invariant in
    let m : Meaning = g.S.Scheme.meaning c.args.heap.now.scheme in
    let W : ℕ = c.args.heap.now.bounds.limit in
    let calls = c.args.calls.now in
    let i = c.loop-i.i in
    let none : CallWords = record { number = 0; a = 0; b = 0; c = 0; d = 0 } in
    let w : CallWords = get_or calls i none in
    let r = c.give_words.result in
    let v = view {S = g.row.S.Denot} g.M.Memory.words c.loop-i.heap in
    let v' = view {S = g.row.S.Denot} g.M.Memory.words c.give_words.new.heap in
    let given = c.min-given.result in
    let long : length (take given calls) ≡ given = length-take-le given calls (omega (arith, c.min-given.ensures)) in
    let here : i < given = omega (arith, c.loop-i-test.true, long) in
    let told : Answers m w v v' r =
    subst (λ x. Answers m x v v' r) (get_or-take given calls i none here) (subst (λ s. Answers (g.S.Scheme.meaning s) (get_or (take given calls) i none) v v' r) inv.scheme c.give_words.ensures.answers) in
    let among : i < length calls = omega (arith, here, c.min-given.ensures) in
    let room : i < length c.loop-i.answers = omega (arith, here, c.min-given.ensures, inv.room) in
    let more : take (i + 1) calls ≡ take i calls ++ (w ∷ []) = take_more calls i none among in
    let next = λ (st : State) (s : StandsAt m (view {S = g.row.S.Denot} g.M.Memory.words c.args.heap.now) st). one_more m W (take i calls) w v v' r st inv.limit (inv.stands st s) told in
    record {
      told = λ st s.
          take_more_set c.loop-i.answers i r room
          ∙ ap₂ {C = List Answer} (λ (l : List Answer) (a : Answer). l ++ (a ∷ [])) (inv.told st s) (next st s).0
          ∙ sym (told_push m W (take i calls) w st)
          ∙ ap (λ (ws : List CallWords). (answers m W ws st).0) (sym more);
      stands = λ st s. subst (λ (ws : List CallWords). StandsAt m v' (answers m W ws st).1) (sym more) (next st s).1;
      later = λ st s. (next st s).2 ∙ inv.later st s;
      limit = c.give_words.ensures.answers.limit ∙ inv.limit;
      scheme = c.give_words.ensures.scheme ∙ inv.scheme;
      behind = λ k h. drop-set-lt k c.loop-i.answers i r (omega arith) ∙ inv.behind k (omega arith);
      room = length-set c.loop-i.answers i r ∙ inv.room;
    }

pub returns : goal.returns
returns g c =
    let inv = c.loop-i.invariant in
    let m : Meaning = g.S.Scheme.meaning c.args.heap.now.scheme in
    let W : ℕ = c.args.heap.now.bounds.limit in
    let calls = c.args.calls.now in
    let long : length (take c.min-given.result calls) ≡ c.min-given.result = length-take-le c.min-given.result calls (omega (arith, c.min-given.ensures)) in
    let end : c.loop-i.i ≡ c.min-given.result = omega (arith, long, c.loop-i-test.false) in
    record {
      gives = record {
        count = c.min-given.ensures;
        told = λ st s. subst (λ (n : ℕ). take n c.loop-i.answers ≡ (answers m W (take n calls) st).0) end (inv.told st s);
        stands = λ st s. subst (λ (n : ℕ). StandsAt m (view {S = g.row.S.Denot} g.M.Memory.words c.loop-i.heap) (answers m W (take n calls) st).1) end (inv.stands st s);
        later = inv.later;
        limit = inv.limit;
        behind = inv.behind c.min-given.result (omega (arith, end));
      };
      scheme = inv.scheme;
    }
