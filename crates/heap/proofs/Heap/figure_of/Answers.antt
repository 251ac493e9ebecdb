use Rattle.std.proofs.Common.{◌≡◌, ℕ, ◌+◌, ◌/◌, ◌≤◌, Bool, List, [], ◌∷◌, get_or, Ok, sym, ap, ◌∙◌, inl, inr, arith}
use Rattle.std.proofs.lemmas.Bool.{le-ltb}
use Rattle.scheme.specs.Meaning.{Meaning}
use Rattle.graph.specs.Graph.{Graph, Value}
use Rattle.graph.specs.Numbers.{kind_number}
use Rattle.graph.specs.Step.{kind_of, figure_of, object_of}
use Rattle.heap.specs.Effects.{View}
use Rattle.heap.specs.Views.{Stands, Means}
use Rattle.heap.specs.Checks.{Sifts, is_object, more, none}
use Rattle.heap.proofs.Judging.{sifts-ok}
use Rattle.heap.proofs.Readings.{record-figure, class-figure}
use Rattle.heap.proofs.Heap.figure_of.Goals as goal

-- the figure of a class stands behind its header
class-sifts : (m : Meaning) (v : View) (g : Graph) (s : List Bool) (x : Value) (w at k r : ℕ) → Stands m v g s → Means v.limit g s w x → k ≡ kind_of g x → 3 ≤ k → r ≡ get_or v.words (w / 4 + 1) 0 → Sifts {X = ℕ} (is_object g x at ∷ []) (λ n. n ≡ figure_of (object_of g x)) (Ok r)
class-sifts m v g s x w at k r st is e l read =
    sifts-ok (more (le-ltb (kind_of g x) 2 (omega (arith, e))) none) (read ∙ class-figure m v g s st x w is (λ two. omega (arith, e, two)) (omega (arith, e)))

pub returns-in-Record : goal.returns-in-Record
returns-in-Record g c gr s x st is =
    let k = c.in-Record.ensures gr s x st is in
    let words = g.M.Memory.words c.args.self.now.space.memory in
    let size : c.size_in.result ≡ get_or words (c.args.word / 4) 0 / 16 =
    c.size_in.ensures ∙ ap (λ h. h / 16) (c.read.ensures ∙ ap (λ p. get_or words p 0) c.place_of-place.ensures) in
    sifts-ok (more (le-ltb (kind_of gr x) 2 (omega (arith, k))) none)
    (omega (arith, record-figure _ _ gr s st x c.args.word is (sym k), size, c.saturating_sub.ensures))

pub returns-in-Layout : goal.returns-in-Layout
returns-in-Layout g c gr s x st is =
    let k = c.kind_of.ensures gr s x st is in
    let read = c.word_in.ensures in
    elim c.in-Layout.is [
      | inl e ↦ class-sifts _ _ gr s x c.args.word c.args.at 3 _ st is (sym (ap kind_number e) ∙ k) (omega arith) read
      | inr e ↦ class-sifts _ _ gr s x c.args.word c.args.at 4 _ st is (sym (ap kind_number e) ∙ k) (omega arith) read
    ]
