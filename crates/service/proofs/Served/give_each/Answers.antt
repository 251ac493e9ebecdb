use Rattle.std.proofs.Common.{◌≡◌, ◌+◌, List, [], ◌∷◌, ◌++◌, get_or, take, pos, vec_items, sym, refl, append-nil, ◌∙◌, subst, arith}
use Rattle.std.proofs.lemmas.List.{take_more, take_all}
use Rattle.scheme.specs.Meaning.{Meaning}
use Rattle.graph.specs.declared.Call.{Call}
use Rattle.graph.specs.declared.Call.TheVariants.{Num}
use Rattle.graph.specs.Step.{Outcome}
use Rattle.heap.specs.Effects.{View}
use Rattle.heap.specs.Views.{view}
use Rattle.service.specs.Course.{Continues}
use Rattle.service.proofs.Steps.{continues-on}
use Rattle.service.proofs.Laws.{as-one-list}
use Rattle.service.proofs.Served.give_each.Goals as goal

pub loop-call-init : goal.loop-call-init
loop-call-init g c =
    record {
      on = record { heaps = []; new = []; behind = sym (append-nil (vec_items c.args.self.answers)); steps = refl };
      scheme = refl;
      count = omega arith;
      room_is = refl;
    }

pub loop-call-preserved : goal.loop-call-preserved
loop-call-preserved g c =
    let inv = c.loop-call.invariant in
    let meaning = g.S.Scheme.meaning in
    let m : Meaning = meaning c.args.self.heap.scheme in
    let calls = c.args.calls.now in
    let i = c.loop-call.call-index in
    let call : Call = get_or calls i (Num 0 (pos 0)) in
    let first = view {S = g.row.S.Denot} g.M.Memory.words c.args.self.heap in
    let v = view {S = g.row.S.Denot} g.M.Memory.words c.loop-call.served.heap in
    let w = view {S = g.row.S.Denot} g.M.Memory.words c.give-served.result.heap in
    let at_hand : List Outcome = vec_items c.args.self.answers in
    let so_far : List Outcome = vec_items c.loop-call.served.answers in
    let after : List Outcome = vec_items c.give-served.result.answers in
    let one = c.give-served.ensures in
    let more : take (i + 1) calls ≡ take i calls ++ call ∷ [] = take_more calls i (Num 0 (pos 0)) c.loop-call-test.true in
    record {
      on = subst (λ (cs : List Call). Continues m first at_hand cs after w) (sym more)
          (continues-on m first at_hand (take i calls) so_far v (call ∷ []) after w inv.on (subst (λ s. Continues (meaning s) v so_far (call ∷ []) after w) inv.scheme one.continues));
      scheme = one.scheme ∙ inv.scheme;
      count = omega (arith, one.len, inv.count);
      room_is = one.capacity ∙ inv.room_is;
    }

pub returns : goal.returns
returns g c =
    let inv = c.loop-call.invariant in
    let words = g.M.Memory.words in
    let m : Meaning = g.S.Scheme.meaning c.args.self.heap.scheme in
    let calls = c.args.calls.now in
    let first : View = view {S = g.row.S.Denot} words c.args.self.heap in
    let last : View = view {S = g.row.S.Denot} words c.loop-call.served.heap in
    let at_hand : List Outcome = vec_items c.args.self.answers in
    let answers : List Outcome = vec_items c.loop-call.served.answers in
    let all : take c.loop-call.call-index calls ≡ calls = take_all c.loop-call.call-index calls (omega arith) in
    let on : Continues m first at_hand calls answers last = subst (λ (cs : List Call). Continues m first at_hand cs answers last) all inv.on in
    record { continues = on; as_one_list = as-one-list m first at_hand calls answers last on; scheme = inv.scheme }
