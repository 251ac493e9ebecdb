use Rattle.std.proofs.Common.{◌≡◌, true, [], ◌∷◌, ℤ, Ok, Err, refl, ap, ◌∙◌, subst, w32}
use Rattle.std.proofs.lemmas.Int.{to_z-of_z}
use Rattle.graph.specs.Step.{value_number, in_range}
use Rattle.graph.specs.Words.{number_word}
use Rattle.graph.specs.declared.Call.TheVariants.{Num}
use Rattle.graph.specs.Graph.{number}
use Rattle.heap.specs.Views.{view, nothing}
use Rattle.heap.specs.Effects.{with_handle}
use Rattle.heap.specs.Checks.{Sifts}
use Rattle.heap.proofs.Judging.{passed, all_pass, next, stop}
use Rattle.heap.proofs.Acts.{sets-done}
use Rattle.heap.proofs.Exits.{exits, ends}
use Rattle.heap.proofs.Heap.num.Goals as goal

pub returns-in_err-check_handle : goal.returns-in_err-check_handle
returns-in_err-check_handle g c =
    exits _ _ (Num c.args.handle c.args.number) _ nothing c.from_residual.result c.from_residual.ensures.1 λ gr s st.
    stop _ c.in_err-check_handle.ensures

pub returns-in_err-check_number : goal.returns-in_err-check_number
returns-in_err-check_number g c =
    exits _ _ (Num c.args.handle c.args.number) _ nothing c.from_residual-in_err-check_number.result c.from_residual-in_err-check_number.ensures.1 λ gr s st.
    next c.in_ok-check_handle.ensures
    (stop _ (subst (λ (z : ℤ). Sifts {X = Unit {0}} (value_number z 2 ∷ []) (λ _. in_range z ≡ true) (Err c.in_err-check_number.field-0.0)) (to_z-of_z w32 c.args.number c.ranges.number) c.in_err-check_number.ensures))

pub returns : goal.returns
returns g c =
    let same = to_z-of_z w32 c.args.number c.ranges.number in
    let p = subst (λ (z : ℤ). Sifts {X = Unit {0}} (value_number z 2 ∷ []) (λ _. in_range z ≡ true) (Ok tt)) same c.in_ok-check_number.ensures in
    let word : c.encode.result ≡ number_word c.args.number = c.encode.ensures ∙ ap number_word same in
    ends _ _ (Num c.args.handle c.args.number) _ _ _ refl refl (ap (with_handle (view {S = g.row.S.Denot} g.M.Memory.words c.args.self.now) c.args.handle) word) λ gr s st.
    sets-done _ (Num c.args.handle c.args.number) _ gr s st c.args.handle _ (number c.args.number) refl (passed c.in_ok-check_handle.ensures (all_pass p)) word
