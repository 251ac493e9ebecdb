-- What C is answered where nothing is done.
use Rattle.std.specs.Prelude.{ℤ, negsuc, Ok, Err, Result}
use Rattle.clib.specs.declared.errors.TurnError.{TurnError}
use Rattle.clib.specs.declared.errors.TurnError.TheVariants.{OutOfTurn, NoScheme}

-- where the heap is not in the phase that is asked for, and where the scheme is none of the two
abbrev pub out_of_turn : ℤ
out_of_turn = negsuc 0

abbrev pub no_scheme : ℤ
no_scheme = negsuc 1

abbrev pub error_number : TurnError → ℤ
error_number OutOfTurn = out_of_turn
error_number NoScheme = no_scheme

-- the number of what was done, or of the error
abbrev pub number_of : Result ℤ TurnError → ℤ
number_of (Ok n) = n
number_of (Err e) = error_number e
