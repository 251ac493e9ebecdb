use Rattle.std.proofs.Common.{◌≡◌, ℕ, ◌+◌, ◌≤◌, ◌++◌, length, vec_items}
use Rattle.scheme.specs.Meaning.{Meaning}
use Rattle.graph.specs.Advance.{State, advance}
use Rattle.lexer.specs.Pieces.{lines}
use Rattle.report.specs.Loads.{runs}
use Rattle.heap.specs.Views.{view}
use Rattle.runner.specs.Runs.{StandsAt}
use Rattle.runner.proofs.run_lines.Given as goal

-- the reports so far and those of the lines that are left are those of all lines
abbrev pub invariant-loop-number : goal.invariant-loop-number
invariant-loop-number g l =
    let m : Meaning = g.S.Scheme.meaning l.initial.heap.scheme in
    let W : ℕ = l.initial.heap.bounds.limit in
    let number = l.number-iterator.a.start in
    let left = lines l.number-iterator.b.rest.now in
    ((st : State) → StandsAt m (view g.M.Memory.words l.initial.heap) st →
    (now : State) × StandsAt m (view g.M.Memory.words l.heap) now
    × (vec_items l.reports ++ runs (advance m W) now l.columns number left ≡ vec_items l.initial.reports ++ runs (advance m W) st l.columns 2 (lines l.text)))
    × (l.heap.bounds.limit ≡ l.initial.heap.bounds.limit)
    × (l.heap.scheme ≡ l.initial.heap.scheme)
    × (number + length left ≤ 65538)
