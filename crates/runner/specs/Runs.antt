-- What a line and a list of lines give over a heap, by the rules of the text and the still graph.
use Rattle.std.specs.Prelude.{◌≡◌, ℕ, min, List, ◌++◌, length, ℤ, Result}
use Rattle.scheme.specs.Meaning.{Meaning}
use Rattle.graph.specs.Advance.{State, advance}
use Rattle.load.specs.Calls.{parsed}
use Rattle.load.specs.declared.names.Columns.{Columns}
use Rattle.report.specs.declared.line_faults.CallFault.{CallFault}
use Rattle.report.specs.declared.line_faults.LineFault.{LineFault}
use Rattle.report.specs.declared.reports.Report.{Report}
use Rattle.report.specs.Faults.{on_line}
use Rattle.report.specs.Loads.{answered, runs}
use Rattle.heap.specs.Effects.{View}
use Rattle.heap.specs.Views.{Stands}

-- how many words of a memory are a heap's: all, or 16,384 where there are more
abbrev pub heap_words : List ℕ → ℕ
heap_words memory = min (length memory) 16384

abbrev pub StandsAt : Meaning → View → State → Type 0
StandsAt m v st = Stands m v st.graph st.standing

-- a line is answered as the still graph answers its call, or stopped by its text, and then the heap is as it was
pub record Answers (m : Meaning) (c : Columns) (line : List ℕ) (before after : View) (r : Result ℤ CallFault) : Type 0 where
  pub told : (st : State) → StandsAt m before st → r ≡ (answered (advance m before.limit) st (parsed c line)).0
  pub stands : (st : State) → StandsAt m before st → StandsAt m after (answered (advance m before.limit) st (parsed c line)).1
  pub limit : after.limit ≡ before.limit

-- the same with the line's number
pub record AnswersLine (m : Meaning) (c : Columns) (n : ℕ) (line : List ℕ) (before after : View) (r : Result ℤ LineFault) : Type 0 where
  pub told : (st : State) → StandsAt m before st → r ≡ on_line (answered (advance m before.limit) st (parsed c line)).0 n
  pub stands : (st : State) → StandsAt m before st → StandsAt m after (answered (advance m before.limit) st (parsed c line)).1
  pub limit : after.limit ≡ before.limit

-- the reports of the lines are added
abbrev pub Reports : Meaning → Columns → List (List ℕ) → View → List Report → List Report → Type 0
Reports m c ls before old new = (st : State) → StandsAt m before st → new ≡ old ++ runs (advance m before.limit) st c 2 ls
