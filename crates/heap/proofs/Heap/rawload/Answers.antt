use Rattle.std.proofs.Common.{ℕ, get_or, pos, sym, refl, ap, ◌∙◌}
use Rattle.graph.specs.declared.Call.TheVariants.{RawLoad}
use Rattle.graph.specs.Graph.{held}
use Rattle.graph.specs.Step.{cell_in, tells}
use Rattle.graph.specs.Words.{reference}
use Rattle.heap.proofs.Judging.{passed, all_pass, next, stop}
use Rattle.heap.proofs.Acts.{tells-done}
use Rattle.heap.proofs.Readings.{held-means, found, raw_word}
use Rattle.heap.proofs.Exits.{exits, ends}
use Rattle.heap.proofs.Heap.rawload.Goals as goal

pub returns-in_err-check_handle : goal.returns-in_err-check_handle
returns-in_err-check_handle g c =
    exits _ _ (RawLoad c.args.owner c.args.field) _ pos c.from_residual.result c.from_residual.ensures.1 λ gr s st.
    stop _ c.in_err-check_handle.ensures

pub returns-in_err-place : goal.returns-in_err-place
returns-in_err-place g c =
    exits _ _ (RawLoad c.args.owner c.args.field) _ pos c.from_residual-in_err-place.result c.from_residual-in_err-place.ensures.1 λ gr s st.
    next c.in_ok-check_handle.ensures (stop _ (c.in_err-place.ensures.sifts gr s (held gr c.args.owner) st (held-means _ _ gr s st c.args.owner c.in_ok-check_handle.ensures.gives)))

pub returns : goal.returns
returns g c =
    let o = c.args.owner in
    let i = c.args.field in
    ends _ _ (RawLoad o i) _ _ _ refl refl refl λ gr s st.
    let is = held-means _ _ gr s st o c.in_ok-check_handle.ensures.gives in
    let q = c.in_ok-place.ensures.sifts gr s (held gr o) st is in
    let f = found _ _ gr s st (held gr o) _ i 1 2 _ is (all_pass q) in
    let w = c.read.ensures ∙ ap (λ (p : ℕ). get_or (g.M.Memory.words c.args.self.now.space.memory) p 0) q.gives ∙ f.owner.field_word_is i f.inside ∙ raw_word (reference c.args.self.now.bounds.limit gr s) (cell_in gr o i) f.sort_found in
    tells-done _ (RawLoad o i) _ gr s st (pos c.read.result) (ap (λ (k : ℕ). tells (pos k)) (sym w))
    (passed c.in_ok-check_handle.ensures (all_pass q))
