-- The number and the position that a fault of the text carries.
use Rattle.std.specs.Prelude.{ℕ}
use Rattle.faults.specs.declared.Argument.{Argument}
use Rattle.faults.specs.declared.Argument.TheVariants.{A, B, C, D}
use Rattle.faults.specs.declared.TextFault.{TextFault}
use Rattle.faults.specs.declared.TextFault.TheVariants.{TooLong, NoNames, NoShape, NoWord, NoValue}

abbrev pub argument_position : Argument → ℕ
argument_position A = 1
argument_position B = 2
argument_position C = 3
argument_position D = 4

abbrev pub text_number : TextFault → ℕ
text_number TooLong = 40
text_number NoNames = 41
text_number NoShape = 42
text_number NoWord = 43
text_number (NoValue x) = 44

abbrev pub text_position : TextFault → ℕ
text_position TooLong = 0
text_position NoNames = 0
text_position NoShape = 0
text_position NoWord = 0
text_position (NoValue x) = argument_position x
