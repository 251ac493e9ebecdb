use Rattle.std.proofs.Common.{◌≡◌, ℕ, ◌+◌, List, [], ◌∷◌, ◌++◌, get_or, take, pos, vec_items, is_ok, sym, ap, ◌∙◌, length, length-append, arith}
use Rattle.std.proofs.ResultArms.{chosen}
use Rattle.std.proofs.lemmas.List.{take_more}
use Rattle.graph.specs.declared.Call.{Call}
use Rattle.graph.specs.declared.Call.TheVariants.{Num}
use Rattle.graph.specs.Runs.{others}
use Rattle.dispatch.proofs.Others.{with_collection}
use Rattle.dispatch.proofs.twice.with_collections.Goals as goal

pub loop-call-preserved : goal.loop-call-preserved
loop-call-preserved c =
    let calls = c.args.calls.now in
    let i = c.loop-call.call-index in
    let call : Call = get_or calls i (Num 0 (pos 0)) in
    let between : Call = c.collection.result in
    let so_far : List Call = vec_items c.loop-call.all in
    let more : take (i + 1) calls ≡ take i calls ++ call ∷ [] = take_more calls i (Num 0 (pos 0)) c.loop-call-test.true in
    let first : vec_items c.push.new.self ≡ so_far ++ (call ∷ []) = chosen _ _ _ _ c.push.ensures.items (ap is_ok c.in_ok-push.was) in
    let both : vec_items c.push-in-loop-call.new.self ≡ vec_items c.push.new.self ++ (between ∷ []) = chosen _ _ _ _ c.push-in-loop-call.ensures.items (ap is_ok c.in_ok-push-2.was) in
    let all : vec_items c.push-in-loop-call.new.self ≡ (so_far ++ (call ∷ [])) ++ (between ∷ []) = both ∙ ap (λ (cs : List Call). cs ++ (between ∷ [])) first in (
      ap others all ∙ with_collection so_far (take i calls) call between c.loop-call.invariant.0 c.collection.ensures ∙ ap others (sym more),
      omega (arith, ap {B = ℕ} length all, length-append (so_far ++ (call ∷ [])) (between ∷ []), length-append so_far (call ∷ []), c.loop-call.invariant.1),
    )
