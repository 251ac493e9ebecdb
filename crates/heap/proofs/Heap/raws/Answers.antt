use Rattle.std.proofs.Common.{ℕ, pos, sym, refl, ap, ◌∙◌}
use Rattle.std.proofs.lemmas.Bool.{eqb-true, not-false}
use Rattle.graph.specs.declared.Call.TheVariants.{Raws}
use Rattle.graph.specs.Graph.{held}
use Rattle.graph.specs.Step.{tells, kind_of}
use Rattle.heap.proofs.Judging.{passed, all_pass, pass-first, next, stop}
use Rattle.heap.proofs.Acts.{tells-done}
use Rattle.heap.proofs.Readings.{held-means, raws-read}
use Rattle.heap.proofs.Exits.{exits, ends}
use Rattle.heap.proofs.Heap.raws.Goals as goal

pub returns-in_err-check_handle : goal.returns-in_err-check_handle
returns-in_err-check_handle g c =
    exits _ _ (Raws c.args.handle) _ pos c.from_residual.result c.from_residual.ensures.1 λ gr s st.
    stop _ c.in_err-check_handle.ensures

pub returns-in_err-check_kind : goal.returns-in_err-check_kind
returns-in_err-check_kind g c =
    exits _ _ (Raws c.args.handle) _ pos c.from_residual-in_err-check_kind.result c.from_residual-in_err-check_kind.ensures.1 λ gr s st.
    next c.in_ok-check_handle.ensures (stop _ (c.in_err-check_kind.ensures gr s (held gr c.args.handle) st (held-means _ _ gr s st c.args.handle c.in_ok-check_handle.ensures.gives)))

pub returns : goal.returns
returns g c =
    ends _ _ (Raws c.args.handle) _ _ _ refl refl refl λ gr s st.
    let is = held-means _ _ gr s st c.args.handle c.in_ok-check_handle.ensures.gives in
    let p = c.in_ok-check_kind.ensures gr s (held gr c.args.handle) st (held-means _ _ gr s st c.args.handle c.in_ok-check_handle.ensures.gives) in
    let k = eqb-true (kind_of gr (held gr c.args.handle)) 3 (not-false _ (pass-first (all_pass p))) in
    let e = c.raw_count.ensures ∙ raws-read _ _ gr s st (held gr c.args.handle) _ c.rule_of-rule.result c.word_in-fields.result is k (λ q here kind w. c.rule_of-rule.ensures gr s q st here kind w) c.word_in-fields.ensures in
    tells-done _ (Raws c.args.handle) _ gr s st (pos c.raw_count.result) (ap (λ (n : ℕ). tells (pos n)) (sym e)) (passed c.in_ok-check_handle.ensures (all_pass p))
