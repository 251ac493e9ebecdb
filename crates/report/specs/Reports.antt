-- The lines of the output, as values and as text.
use Rattle.std.specs.Prelude.{ℕ, List, [], ◌∷◌, ◌++◌, ℤ, pos, Ok, Err, codes, decimal, Result}
use Rattle.std.specs.Fmt.{signed_decimal}
use Rattle.report.specs.declared.line_faults.LineFault.{LineFault}
use Rattle.report.specs.declared.line_faults.CallFault.{CallFault}
use Rattle.report.specs.declared.reports.Report.{Report}
use Rattle.report.specs.declared.reports.Stop.{Stop}
use Rattle.report.specs.Faults.{fault_number, fault_position}

-- the number and the position of a fault
abbrev pub stop_of : CallFault → Stop
stop_of e = record { number = pos (fault_number e); at = fault_position e }

-- what is told of line n: of a call that was granted no value is to blame
abbrev pub reported : ℕ → Result ℤ LineFault → Report
reported n (Ok answer) = record { line = n; at = 0; outcome = Ok answer }
reported n (Err e) =
    let stop = stop_of e.fault in
    record { line = e.line; at = stop.at; outcome = Err stop.number }

-- how an outcome is told: whether the call was granted, and the number
abbrev pub state : Result ℤ ℤ → List ℕ
state (Ok answer) = codes "ok"
state (Err stop) = codes "no"

abbrev pub number : Result ℤ ℤ → ℤ
number (Ok answer) = answer
number (Err stop) = stop

-- line, state, number and position, one space between
abbrev pub shown_report : Report → List ℕ
shown_report x =
    decimal x.line ++ (codes " " ++ (state x.outcome ++ (codes " " ++ (signed_decimal (number x.outcome) ++ (codes " " ++ decimal x.at)))))

-- a line and byte 10 behind it, for each report
abbrev pub written : List Report → List ℕ
written [] = []
written (r ∷ rs) = shown_report r ++ (10 ∷ written rs)

abbrev pub output : List Report → List ℕ
output rs = codes "line state number at\n" ++ written rs
