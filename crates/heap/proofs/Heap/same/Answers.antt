use Rattle.std.proofs.Common.{cond, eqb, pos, sym, refl, ap, ◌∙◌, ap₂}
use Rattle.graph.specs.declared.Call.TheVariants.{Same}
use Rattle.graph.specs.Graph.{held}
use Rattle.graph.specs.Step.{tells}
use Rattle.graph.proofs.Laws.{words-tell}
use Rattle.heap.specs.Views.{truth}
use Rattle.heap.proofs.Judging.{passed, all_pass, next, stop}
use Rattle.heap.proofs.Acts.{tells-done}
use Rattle.heap.proofs.Readings.{held-means}
use Rattle.heap.proofs.Exits.{exits, ends}
use Rattle.heap.proofs.Heap.same.Goals as goal

pub returns-in_err-check_handle : goal.returns-in_err-check_handle
returns-in_err-check_handle g c =
    exits _ _ (Same c.args.first c.args.second) _ truth c.from_residual.result c.from_residual.ensures.1 λ gr s st.
    stop _ c.in_err-check_handle.ensures

pub returns-in_err-check_handle-2 : goal.returns-in_err-check_handle-2
returns-in_err-check_handle-2 g c =
    exits _ _ (Same c.args.first c.args.second) _ truth c.from_residual-in_err-check_handle-2.result c.from_residual-in_err-check_handle-2.ensures.1 λ gr s st.
    next c.in_ok-check_handle.ensures (stop _ c.in_err-check_handle-2.ensures)

-- values are the same exactly where their words are
pub returns : goal.returns
returns g c =
    ends _ _ (Same c.args.first c.args.second) _ _ _ refl refl refl λ gr s st.
    let a = held-means _ _ gr s st c.args.first c.in_ok-check_handle.ensures.gives in
    let b = held-means _ _ gr s st c.args.second c.in_ok-check_handle-2.ensures.gives in
    let e = words-tell c.args.self.now.bounds.limit gr s (held gr c.args.first) (held gr c.args.second) st.rests.sound.fits st.rests.sound.as_long a.fitting b.fitting
    ∙ ap₂ eqb (sym a.word_is) (sym b.word_is) in
    tells-done _ (Same c.args.first c.args.second) _ gr s st _ (ap (λ t. tells (pos (cond t 1 0))) e) (passed c.in_ok-check_handle.ensures (all_pass c.in_ok-check_handle-2.ensures))
