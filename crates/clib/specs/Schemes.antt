-- The two schemes by their numbers.
use Rattle.std.specs.Prelude.{ℕ, cond, Ok, Err, Result, ◌==◌}
use Rattle.scheme.specs.Meaning.{Meaning, prefix, mask}
use Rattle.clib.specs.declared.errors.TurnError.{TurnError}
use Rattle.clib.specs.declared.errors.TurnError.TheVariants.{NoScheme}
use Rattle.clib.specs.declared.schemes.AnyScheme.{AnyScheme}
use Rattle.clib.specs.declared.schemes.AnyScheme.TheVariants.{Prefix, Mask}

-- 0 is PREFIX and 1 is MASK; no other number is a scheme's
abbrev pub scheme_of : ℕ → Result AnyScheme TurnError
scheme_of n = cond (n == 0) (Ok Prefix) (cond (n == 1) (Ok Mask) (Err NoScheme))

abbrev pub meaning_of : AnyScheme → Meaning
meaning_of Prefix = prefix
meaning_of Mask = mask
