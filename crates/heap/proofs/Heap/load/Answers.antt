use Rattle.std.proofs.Common.{◌≡◌, ℕ, ◌+◌, ◌/◌, get_or, refl, ap, ◌∙◌}
use Rattle.graph.specs.declared.Call.TheVariants.{Load}
use Rattle.graph.specs.Graph.{held}
use Rattle.graph.specs.Step.{cell_in, cell_value}
use Rattle.graph.specs.Words.{reference}
use Rattle.heap.specs.Effects.{with_handle}
use Rattle.heap.specs.Views.{view, nothing}
use Rattle.heap.proofs.Judging.{passed, all_pass, next, stop}
use Rattle.heap.proofs.Acts.{sets-done}
use Rattle.heap.proofs.Readings.{held-means, found, value-word}
use Rattle.heap.proofs.Exits.{exits, ends}
use Rattle.heap.proofs.Heap.load.Goals as goal

pub returns-in_err-check_handle : goal.returns-in_err-check_handle
returns-in_err-check_handle g c =
    exits _ _ (Load c.args.target c.args.owner c.args.field) _ nothing c.from_residual.result c.from_residual.ensures.1 λ gr s st.
    stop _ c.in_err-check_handle.ensures

pub returns-in_err-check_handle-2 : goal.returns-in_err-check_handle-2
returns-in_err-check_handle-2 g c =
    exits _ _ (Load c.args.target c.args.owner c.args.field) _ nothing c.from_residual-in_err-check_handle-2.result c.from_residual-in_err-check_handle-2.ensures.1 λ gr s st.
    next c.in_ok-check_handle.ensures (stop _ c.in_err-check_handle-2.ensures)

pub returns-in_err-place : goal.returns-in_err-place
returns-in_err-place g c =
    exits _ _ (Load c.args.target c.args.owner c.args.field) _ nothing c.from_residual-in_err-place.result c.from_residual-in_err-place.ensures.1 λ gr s st.
    next c.in_ok-check_handle.ensures
    (next c.in_ok-check_handle-2.ensures
    (stop _ (c.in_err-place.ensures.sifts gr s (held gr c.args.owner) st (held-means _ _ gr s st c.args.owner c.in_ok-check_handle-2.ensures.gives))))

pub returns : goal.returns
returns g c =
    let o = c.args.owner in
    let i = c.args.field in
    let words = g.M.Memory.words c.args.self.now.space.memory in
    let word : c.read.result ≡ get_or words (get_or c.args.self.now.space.handles o 0 / 4 + (2 + i)) 0 = c.read.ensures ∙ ap (λ (p : ℕ). get_or words p 0) c.in_ok-place.ensures.place in
    ends _ _ (Load c.args.target o i) _ _ _ refl refl (ap (with_handle (view {S = g.row.S.Denot} g.M.Memory.words c.args.self.now) c.args.target) word) λ gr s st.
    let is = held-means _ _ gr s st o c.in_ok-check_handle-2.ensures.gives in
    let q = c.in_ok-place.ensures.sifts gr s (held gr o) st is in
    let f = found _ _ gr s st (held gr o) _ i 2 3 _ is (all_pass q) in
    sets-done _ (Load c.args.target o i) _ gr s st c.args.target _ (cell_value (cell_in gr o i)) refl
    (passed c.in_ok-check_handle.ensures (passed c.in_ok-check_handle-2.ensures (all_pass q)))
    (word ∙ f.owner.field_word_is i f.inside ∙ value-word (reference c.args.self.now.bounds.limit gr s) (cell_in gr o i) f.sort_found)
