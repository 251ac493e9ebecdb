use Rattle.std.proofs.Common.{Err, sym, ap, ◌∙◌, arith, length-set}
use Rattle.std.proofs.lemmas.Result.{err_from_is_err_and}
use Rattle.load.proofs.ByColumn.{used-ok, used-err, spare-ok}
use Rattle.load.proofs.calls.Arguments.numbers.Goals as goal
use Rattle.load.proofs.calls.Arguments.numbers.Goals.{then-place+in_ok-numbers, else-place+in_ok-unused_of}

pub returns-in_err-numbers : goal.returns-in_err-numbers
returns-in_err-numbers g c =
    let p = err_from_is_err_and c.from_residual.result c.from_residual.ensures.1 in
    let inv = c.loop-place.invariant in
    p.1 ∙ ap Err p.2 ∙ used-err _ _ _ _ _ _ _ inv.held inv.reads (omega arith) _ c.under-token.ensures (omega arith) _ (sym c.in_err-numbers.was ∙ c.plain_of.ensures)

pub loop-place-preserved : goal.loop-place-preserved
loop-place-preserved g c =
    let inv = c.loop-place.invariant in
    elim c.if-place.branch [
      | then-place+in_ok-numbers w ↦ rw w.numbers-is record {
        held = simp length-set inv.held;
        reads = used-ok _ _ _ _ _ _ _ inv.held inv.reads (omega arith) _ c.under-token.ensures (omega arith) _ (sym w.in_ok-numbers.was ∙ w.plain_of.ensures);
      }
      | else-place+in_ok-unused_of w ↦ rw w.numbers-is record {
        held = inv.held;
        reads = spare-ok _ _ _ _ _ _ _ inv.held inv.reads (omega arith) _ c.under-token.ensures (omega arith) (sym w.in_ok-unused_of.was ∙ w.unused_of.ensures);
      }
    ]
