use Rattle.std.proofs.Common.{inl, inr}
use Rattle.dispatch.proofs.Others.{ended}
use Rattle.dispatch.proofs.twice.told_to_others.Goals as goal

pub returns : goal.returns
returns c =
    let left = c.loop-call.call-iterator in
    ended left.a.rest.now left.b.rest.now c.loop-call.told.items _ (elim c.in-None.ensures.steps [ inl x ↦ inl x.1.0 | inr x ↦ inr x.1.0 ]) c.loop-call.invariant
