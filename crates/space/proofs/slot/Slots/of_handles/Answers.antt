use Rattle.std.proofs.Common.{ℕ, ◌/◌, ◌%◌, ◌^◌, eqb, get_or, sym, ap, ◌∙◌, arith}
use Rattle.std.proofs.lemmas.Nat.Bits.{bit_at_above}
use Rattle.graph.specs.Places.{refers}
use Rattle.space.proofs.Masks.{gather-one, gather-none}
use Rattle.space.proofs.slot.Slots.of_handles.Goals as goal
use Rattle.space.proofs.slot.Slots.of_handles.Goals.{then-refers, else-refers}

pub loop-h-preserved : goal.loop-h-preserved
loop-h-preserved c =
    let f = λ (k : ℕ). refers (get_or c.args.handles.now k 0) in
    elim c.if-refers.branch [
      | then-refers w ↦ rw w.values-is (gather-one f c.loop-h.values c.loop-h.h (sym c.refers.ensures ∙ w.if-refers.true) c.loop-h-test.true c.loop-h.invariant)
      | else-refers w ↦ rw w.values-is (gather-none f c.loop-h.values c.loop-h.h (sym c.refers.ensures ∙ w.if-refers.false) c.loop-h-test.true c.loop-h.invariant)
    ]

pub returns-clause-none : goal.returns-clause-none
returns-clause-none c = λ h l.
    ap (λ (v : ℕ). eqb (v / 2 ^ h % 2) 1) c.from.ensures ∙ ap (λ (b : ℕ). eqb b 1) (bit_at_above c.loop-h.values 32 h (omega (arith, c.loop-h.auto.values-fits)) l)
