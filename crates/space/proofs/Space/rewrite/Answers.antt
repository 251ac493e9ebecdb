use Rattle.std.proofs.Common.{refl}
use native.Mathlib.Numerals.{unary_clauses}
use Rattle.space.proofs.Wovens.{kept_then, inside-kept}
use Rattle.space.proofs.Following.{run_more, run-all}
use Rattle.space.proofs.Space.rewrite.Goals as goal

pub loop-turn-preserved : goal.loop-turn-preserved
loop-turn-preserved g c = (
  λ stop goal r.
      rw (c.replace-link.ensures.word, c.address_of.ensures)
      (run_more _ _ stop _ goal _ _ c.loop-turn.link c.loop-turn.turn c.loop-turn-test.true
      (λ i. rw c.address_of.ensures at (c.replace-link.ensures.stored.looks (inside-kept c.address_of.result c.loop-turn.invariant.1 (rw c.address_of.ensures i))))
      (c.loop-turn.invariant.0 stop goal r)),
  kept_then c.loop-turn.invariant.1 c.replace-link.ensures.stored.kept,
)

pub returns-clause-rewrites : goal.returns-clause-rewrites
returns-clause-rewrites g c = λ ss stop leads many once within.
    run-all _ _ stop _ _ _ _ _ c.loop-turn-test.false
    (c.loop-turn.invariant.0 stop _ (record { rest = ss; leads = leads; once = once; within = within; room = simp unary_clauses many; left = refl }))
