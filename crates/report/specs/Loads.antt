-- What a whole load tells, from the rules of its text and the still graph.
use Rattle.std.specs.Prelude.{◌≡◌, ℕ, suc, cond, List, [], ◌∷◌, length, ℤ, Ok, Err, codes, Result, nat_lt}
use Rattle.graph.specs.Graph.{bare}
use Rattle.graph.specs.Step.{Outcome, step}
use Rattle.graph.specs.declared.Call.{Call}
use Rattle.lexer.specs.Pieces.{lines}
use Rattle.faults.specs.declared.TextFault.{TextFault}
use Rattle.faults.specs.declared.TextFault.TheVariants.{TooLong}
use Rattle.load.specs.Calls.{parsed}
use Rattle.load.specs.Names.{columns_in}
use Rattle.load.specs.Steps.{and_then}
use Rattle.load.specs.declared.names.Columns.{Columns}
use Rattle.scheme.specs.Meaning.{Meaning, prefix}
use Rattle.report.specs.declared.line_faults.CallFault.{CallFault}
use Rattle.report.specs.declared.line_faults.CallFault.TheVariants.{Text}
use Rattle.report.specs.declared.line_faults.LineFault.{LineFault}
use Rattle.report.specs.declared.loads.Opened.{Opened}
use Rattle.report.specs.declared.reports.Report.{Report}
use Rattle.report.specs.Faults.{of_text, of_heap, on_line}
use Rattle.report.specs.Reports.{reported, output}

-- at most 65,536 bytes
abbrev pub within : List ℕ → Result (Unit {0}) CallFault
within input = cond (nat_lt 65536 (length input)) (Err (Text TooLong)) (Ok tt)

-- the first line, empty where there is none, and the others
abbrev pub first : List (List ℕ) → List ℕ
first [] = []
first (l ∷ ls) = l

abbrev pub behind : List (List ℕ) → List (List ℕ)
behind [] = []
behind (l ∷ ls) = ls

-- the columns that an input gives, or why it is not read further
abbrev pub heading : List ℕ → Result Columns LineFault
heading input = and_then (on_line (within input) 0) (λ _. on_line (of_text (columns_in (first (lines input)))) 1)

abbrev pub columns_of : Result Opened LineFault → Result Columns LineFault
columns_of (Ok o) = Ok o.columns
columns_of (Err e) = Err e

-- The lines behind, over any state that takes calls.
module _ {S : Type 0} (take : Call → S → Outcome × S) where
  -- what a line gives, and the state after it: a line that is no call changes nothing
  abbrev pub answered : S → Result Call TextFault → Result ℤ CallFault × S
  answered s (Ok k) = let x = take k s in (of_heap x.0, x.1)
  answered s (Err e) = (Err (Text e), s)

  -- the reports of the lines from line n on
  abbrev pub runs : S → Columns → ℕ → List (List ℕ) → List Report
  runs s c n [] = []
  runs s c n (l ∷ ls) = let x = answered s (parsed c l) in reported n (on_line x.0 n) ∷ runs x.1 c (suc n) ls

  abbrev pub told : S → Result Columns LineFault → List (List ℕ) → List Report
  told s (Ok c) ls = runs s c 2 ls
  told s (Err e) ls = reported e.line (Err e) ∷ []

-- what an input tells, line by line, from an empty heap of W words on
abbrev pub loaded : Meaning → ℕ → List ℕ → List Report
loaded m W input = told (step m W) bare (heading input) (behind (lines input))

-- the worked load
abbrev pub worked_input : List ℕ
worked_input =
    codes "call a b c d\nmap 0 1 31 31\nlayout 1 3 0 -\nrecord 2 1 - -\nnum 3 -7 - -\nsave 2 1 3 -\nsave 2 0 3 -\nload 4 2 1 -\nvalue 4 - - -\nclear 2 - - -\ncollect - - - -\nfill - - - -\n"

abbrev pub worked_output : List ℕ
worked_output =
    codes "line state number at\n2 ok 0 0\n3 ok 0 0\n4 ok 0 0\n5 ok 0 0\n6 ok 0 0\n7 no 23 2\n8 ok 0 0\n9 ok -7 0\n10 ok 0 0\n11 ok 9 0\n12 ok 14 0\n"

abbrev pub Worked : Type 0
Worked = output (loaded prefix 64 worked_input) ≡ worked_output
