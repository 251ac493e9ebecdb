use Rattle.std.proofs.Common.{◌≡◌, ℕ, ◌+◌, ◌/◌, [], ◌∷◌, get_or, Ok, Err, refl, ap, ◌∙◌, subst}
use Rattle.std.proofs.lemmas.Bool.{eqb-true, not-false}
use Rattle.graph.specs.declared.Call.TheVariants.{Part}
use Rattle.graph.specs.Graph.{held}
use Rattle.graph.specs.Step.{kind_of, object_of, part_of, part_kind}
use Rattle.heap.specs.Views.{view, nothing}
use Rattle.heap.specs.Effects.{part_offset, with_handle}
use Rattle.heap.specs.Checks.{Sifts, is_kind}
use Rattle.heap.proofs.Judging.{passed, all_pass, pass-first, next, stop}
use Rattle.heap.proofs.Acts.{sets-done}
use Rattle.heap.proofs.Readings.{held-means, part-read}
use Rattle.heap.proofs.Exits.{exits, ends}
use Rattle.heap.proofs.Heap.part.Goals as goal

pub returns-in_err-check_handle : goal.returns-in_err-check_handle
returns-in_err-check_handle g c =
    exits _ _ (Part c.args.target c.args.owner c.args.part) _ nothing c.from_residual.result c.from_residual.ensures.1 λ gr s st.
    stop _ c.in_err-check_handle.ensures

pub returns-in_err-check_handle-2 : goal.returns-in_err-check_handle-2
returns-in_err-check_handle-2 g c =
    exits _ _ (Part c.args.target c.args.owner c.args.part) _ nothing c.from_residual-in_err-check_handle-2.result c.from_residual-in_err-check_handle-2.ensures.1 λ gr s st.
    next c.in_ok-check_handle.ensures (stop _ c.in_err-check_handle-2.ensures)

pub returns-in_err-kind : goal.returns-in_err-kind
returns-in_err-kind g c =
    exits _ _ (Part c.args.target c.args.owner c.args.part) _ nothing c.from_residual-in_err-kind.result c.from_residual-in_err-kind.ensures.1 λ gr s st.
    next c.in_ok-check_handle.ensures (next c.in_ok-check_handle-2.ensures (stop _ c.in_err-kind.ensures))

pub returns-in_err-check_kind : goal.returns-in_err-check_kind
returns-in_err-check_kind g c =
    exits _ _ (Part c.args.target c.args.owner c.args.part) _ nothing c.from_residual-in_err-check_kind.result c.from_residual-in_err-check_kind.ensures.1 λ gr s st.
    next c.in_ok-check_handle.ensures (next c.in_ok-check_handle-2.ensures (next c.in_ok-kind.ensures (stop _ (subst (λ (k : ℕ). Sifts {X = Unit {0}} (is_kind gr (held gr c.args.owner) k 2 ∷ []) (λ _. Unit {0}) (Err c.in_err-check_kind.field-0.0)) c.in_ok-kind.ensures.gives.1 (c.in_err-check_kind.ensures gr s (held gr c.args.owner) st (held-means _ _ gr s st c.args.owner c.in_ok-check_handle-2.ensures.gives))))))

pub returns : goal.returns
returns g c =
    let now = c.args.self.now in
    let words = g.M.Memory.words now.space.memory in
    let at = get_or now.space.handles c.args.owner 0 / 4 in
    let word : c.word_in.result ≡ get_or words (at + part_offset c.args.part) 0 = c.word_in.ensures ∙ ap (λ (k : ℕ). get_or words (at + k) 0) c.in_ok-kind.ensures.gives.2 in
    ends _ _ (Part c.args.target c.args.owner c.args.part) _ _ _ refl refl (ap (with_handle (view {S = g.row.S.Denot} g.M.Memory.words now) c.args.target) word) λ gr s st.
    let is = held-means _ _ gr s st c.args.owner c.in_ok-check_handle-2.ensures.gives in
    let p = subst (λ (k : ℕ). Sifts {X = Unit {0}} (is_kind gr (held gr c.args.owner) k 2 ∷ []) (λ _. Unit {0}) (Ok tt)) c.in_ok-kind.ensures.gives.1 (c.in_ok-check_kind.ensures gr s (held gr c.args.owner) st (held-means _ _ gr s st c.args.owner c.in_ok-check_handle-2.ensures.gives)) in
    let k = eqb-true (kind_of gr (held gr c.args.owner)) (part_kind c.args.part) (not-false _ (pass-first (all_pass p))) in
    sets-done _ (Part c.args.target c.args.owner c.args.part) _ gr s st c.args.target _ (part_of (object_of gr (held gr c.args.owner)) c.args.part) refl
    (passed c.in_ok-check_handle.ensures (passed c.in_ok-check_handle-2.ensures (passed c.in_ok-kind.ensures (all_pass p))))
    (word ∙ part-read _ _ gr s st (held gr c.args.owner) _ c.args.part is c.in_ok-kind.ensures.gives.0 k)
