-- The output, read.
use Rattle.std.specs.Prelude.{◌≡◌, ℕ, ◌^◌, ◌<◌, cond, List, [], ◌∷◌, map, ℤ, pos, neg_ℤ, Some, None, Ok, Err, codes, Option, Result, ◌==◌}
use Rattle.std.specs.Int.Signed.{mag}
use Rattle.std.specs.List.{AllByRecursion}
use Rattle.std.specs.Str.{bytes_eq}
use Rattle.numbers.specs.Numbers.{read_on}
use Rattle.lexer.specs.Pieces.{lines, pieces}
use Rattle.report.specs.declared.reports.Report.{Report}
use Rattle.report.specs.Reports.{number, shown_report, output}

-- the number that a text writes, with or without a minus
abbrev pub read_signed : List ℕ → ℤ
read_signed [] = pos 0
read_signed (x ∷ xs) = cond (x == 45) (neg_ℤ (pos (read_on 0 xs))) (pos (read_on 0 (x ∷ xs)))

-- what a state, a number and a position tell, of line n
abbrev pub read_as : (n : ℕ) (state number position : List ℕ) → Option Report
read_as n s i p =
    let report : Result ℤ ℤ → Report = λ o. record { line = n; at = read_on 0 p; outcome = o } in
    let stopped = cond (bytes_eq s (codes "no")) (Some (report (Err (read_signed i)))) None in
    cond (bytes_eq s (codes "ok")) (Some (report (Ok (read_signed i)))) stopped

abbrev pub read_values : List (List ℕ) → Option Report
read_values [] = None
read_values (l ∷ []) = None
read_values (l ∷ s ∷ []) = None
read_values (l ∷ s ∷ n ∷ []) = None
read_values (l ∷ s ∷ n ∷ a ∷ []) = read_as (read_on 0 l) s n a
read_values (l ∷ s ∷ n ∷ a ∷ x ∷ xs) = None

-- the report that a line of the output shows
abbrev pub read_report : List ℕ → Option Report
read_report line = read_values (pieces line)

-- a report that fits the widths of its parts
pub record Fits (r : Report) : Type 0 where
  pub line : r.line < 2 ^ 32
  pub number : mag (number r.outcome) < 2 ^ 63
  pub at : r.at < 2 ^ 8

abbrev pub ReadBack : Type 0
ReadBack = (r : Report) → Fits r → read_report (shown_report r) ≡ Some r

-- line by line: first the names of the columns, then the reports
abbrev pub OutputReadBack : Type 0
OutputReadBack = (rs : List Report) → AllByRecursion Fits rs → map read_report (lines (output rs)) ≡ None ∷ map Some rs
