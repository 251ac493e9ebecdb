-- The numbers and positions of faults, and how a fault goes up.
use Rattle.std.specs.Prelude.{ℕ, Ok, Err, Result}
use Rattle.graph.specs.Numbers.{refusal_number, refusal_position}
use Rattle.graph.specs.declared.Refusal.{Refusal}
use Rattle.faults.specs.Faults.{text_number, text_position}
use Rattle.faults.specs.declared.TextFault.{TextFault}
use Rattle.report.specs.declared.line_faults.CallFault.{CallFault}
use Rattle.report.specs.declared.line_faults.CallFault.TheVariants.{Text, Heap}
use Rattle.report.specs.declared.line_faults.LineFault.{LineFault}

abbrev pub fault_number : CallFault → ℕ
fault_number (Text f) = text_number f
fault_number (Heap f) = refusal_number f

abbrev pub fault_position : CallFault → ℕ
fault_position (Text f) = text_position f
fault_position (Heap f) = refusal_position f

-- from the text, or from the heap, to the call runner
abbrev pub of_text : {X : Type 0} → Result X TextFault → Result X CallFault
of_text (Ok x) = Ok x
of_text (Err e) = Err (Text e)

abbrev pub of_heap : {X : Type 0} → Result X Refusal → Result X CallFault
of_heap (Ok x) = Ok x
of_heap (Err e) = Err (Heap e)

-- from the call runner to the line
abbrev pub on_line : {X : Type 0} → Result X CallFault → ℕ → Result X LineFault
on_line (Ok x) n = Ok x
on_line (Err e) n = Err (record { line = n; fault = e })
