use Rattle.std.proofs.Common.{◌≡◌, ◌^◌, ◌<◌, drop}
use Rattle.std.specs.Str.{all_ascii_digits}
use Rattle.numbers.specs.Numbers.{read_on}
use Rattle.numbers.proofs.natural_of.Given as goal

-- the bytes so far are digits, and write n
abbrev pub invariant-loop-b : goal.invariant-loop-b
invariant-loop-b l = record {
  small : l.n < 10 ^ l.b-index;
  digits : all_ascii_digits l.digits ≡ all_ascii_digits (drop l.b-index l.digits);
  rest : read_on 0 l.digits ≡ read_on l.n (drop l.b-index l.digits);
}
