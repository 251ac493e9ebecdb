-- The laws of a whole load: what is told of each line, and what no line can change.
use Rattle.std.specs.Prelude.{◌≡◌, ℕ, ◌+◌, ◌<◌, ◌≤◌, Bool, true, false, cond, not, List, [], ◌∷◌, ◌++◌, map, length, ℤ, pos, Some, Ok, Err, Result, ◌≢◌, slice_get}
use Rattle.std.specs.List.{filter}
use Rattle.scheme.specs.Meaning.{Meaning}
use Rattle.graph.specs.declared.Call.{Call}
use Rattle.graph.specs.Graph.{bare}
use Rattle.graph.specs.Numbers.{refusal_number, refusal_position}
use Rattle.graph.specs.Runs.{is_collection}
use Rattle.graph.specs.Step.{Outcome, run}
use Rattle.faults.specs.declared.TextFault.{TextFault}
use Rattle.faults.specs.declared.TextFault.TheVariants.{TooLong, NoNames}
use Rattle.faults.specs.Faults.{text_number, text_position}
use Rattle.lexer.specs.Pieces.{lines}
use Rattle.load.specs.Calls.{parsed}
use Rattle.load.specs.Names.{Named}
use Rattle.load.specs.declared.names.Columns.{Columns}
use Rattle.report.specs.declared.reports.Report.{Report}
use Rattle.report.specs.Loads.{first, behind}
use Rattle.report.specs.Reports.{output}

-- the input is read: it is not too long, and has a name line in front
pub record IsRead (names : Columns) (input : List ℕ) : Type 0 where
  pub short : length input ≤ 65536
  pub named : Named names (first (lines input))

-- what each call line says under the names: a call, or what is wrong with it
abbrev pub said : Columns → List ℕ → List (Result Call TextFault)
said names input = map (parsed names) (behind (lines input))

abbrev pub is_call : Result Call TextFault → Bool
is_call (Ok c) = true
is_call (Err e) = false

abbrev pub is_no_collect : Result Call TextFault → Bool
is_no_collect (Ok c) = not (is_collection c)
is_no_collect (Err e) = true

-- the calls among the lines
abbrev pub calls_in : List (Result Call TextFault) → List Call
calls_in [] = []
calls_in (Ok c ∷ ls) = c ∷ calls_in ls
calls_in (Err e ∷ ls) = calls_in ls

-- what a report tells of its line: the outcome and the position
abbrev pub Told : Type 0
Told = Result ℤ ℤ × ℕ

abbrev pub told_in : Report → Told
told_in r = (r.outcome, r.at)

-- the report that tells this of line n
abbrev pub telling : ℕ → Told → Report
telling n t = record { line = n; at = t.1; outcome = t.0 }

-- what is told of the lines that pass a test
abbrev pub told_where : (Result Call TextFault → Bool) → List (Result Call TextFault) → List Report → List Told
told_where test [] rs = []
told_where test (l ∷ ls) [] = []
told_where test (l ∷ ls) (r ∷ rs) = cond (test l) (told_in r ∷ told_where test ls rs) (told_where test ls rs)

-- how a fault of the text is told, and what a call gave: an answer always at position 0
abbrev pub told_fault : TextFault → Told
told_fault e = (Err (pos (text_number e)), text_position e)

abbrev pub told_outcome : Outcome → Told
told_outcome (Ok n) = (Ok n, 0)
told_outcome (Err r) = (Err (pos (refusal_number r)), refusal_position r)

-- What is told of an input by a load over a new heap of W words.
pub record Tells (m : Meaning) (W : ℕ) (input : List ℕ) (reports : List Report) : Type 0 where
  -- fault 40 is all that is told of an input that is too long, at line 0
  pub too_long : 65536 < length input → reports ≡ telling 0 (told_fault TooLong) ∷ []
  -- fault 41 is all that is told of any other input that has no name line in front, at line 1
  pub no_names :
      length input ≤ 65536 → ((names : Columns) → Named names (first (lines input)) → ⊥)
      → reports ≡ telling 1 (told_fault NoNames) ∷ []
  -- of any other there is one report for each call line, numbered from 2 without a gap
  pub one_each : (names : Columns) → IsRead names input → length reports ≡ length (behind (lines input))
  pub numbered : (names : Columns) → IsRead names input → (k : ℕ) (r : Report) → slice_get reports k ≡ Some r → r.line ≡ 2 + k
  -- that of a line with a fault is this fault
  pub faults :
      (names : Columns) → IsRead names input → (k : ℕ) (e : TextFault) (r : Report)
      → slice_get (said names input) k ≡ Some (Err e) → slice_get reports k ≡ Some r → told_in r ≡ told_fault e
  -- and the calls of the other lines, one after another, are answered as the still graph answers them
  pub calls :
      (names : Columns) → IsRead names input
      → told_where is_call (said names input) reports ≡ map told_outcome (run m W (calls_in (said names input)) bare).0

-- Two loads.
module _ (input : List ℕ) (reports : List Report) (other : List ℕ) (others : List Report) where
  -- where their lines that pass a test say the same, one after another, the same is told of these
  abbrev pub AlikeWhere : (Result Call TextFault → Bool) → Type 0
  AlikeWhere test =
      (names other_names : Columns) → IsRead names input → IsRead other_names other
      → filter test (said names input) ≡ filter test (said other_names other)
      → told_where test (said names input) reports ≡ told_where test (said other_names other) others

  -- where their lines say the same but for one, which has a fault in both, they have the same reports but for the one of this line
  abbrev pub AlikeButFor : Type 0
  AlikeButFor =
      (names other_names : Columns) (front rest : List (Result Call TextFault)) (e f : TextFault) → IsRead names input → IsRead other_names other
      → said names input ≡ front ++ (Err e ∷ rest) → said other_names other ≡ front ++ (Err f ∷ rest)
      → (k : ℕ) → k ≢ length front → slice_get reports k ≡ slice_get others k

pub record KeepsLaws (m : Meaning) (W : ℕ) (input : List ℕ) (reports : List Report) : Type 0 where
  pub tells : Tells m W input reports
  -- nothing else may be told of the input
  pub alone : (others : List Report) → Tells m W input others → others ≡ reports
  -- a line with a fault changes the report of no other line: one with another fault in its place leaves them all as they are
  pub fault_replaced : (other : List ℕ) (others : List Report) → Tells m W other others → AlikeButFor input reports other others
  -- and loads that differ only in lines with a fault, wherever these stand, tell the same of all others
  pub faults_apart : (other : List ℕ) (others : List Report) → Tells m W other others → AlikeWhere input reports other others is_call
  -- nor does a collect line
  pub collects_unnoticed :
      (other : List ℕ) (others : List Report) → Tells m W other others → AlikeWhere input reports other others is_no_collect

-- the text shows the reports of a load that keeps them
pub record Shows (m : Meaning) (W : ℕ) (input text : List ℕ) : Type 0 where
  pub reports : List Report
  pub shown : text ≡ output reports
  pub laws : KeepsLaws m W input reports
