use Rattle.std.proofs.Common.{◌≡◌, ℕ, ◌/◌, ◌%◌, ◌^◌, ◌-◌, ◌∙◌, eqb, ap, inl, inr, arith}
use Rattle.std.proofs.lemmas.Nat.{one_shl}
use Rattle.std.proofs.lemmas.Nat.Bits.{bit_at_ones, bit_at_ones_above}
use Rattle.std.proofs.lemmas.Bool.{cases_lt}
use Rattle.std.proofs.lemmas.Bool.Decides.{nat_tests}
use Rattle.scheme.proofs.PrefixScheme.raw_fields.Goals as goal

pub returns : goal.returns
returns c = λ i l.
    let r = c.args.rule in
    ap (λ (k : ℕ). eqb ((k - 1) / 2 ^ i % 2) 1) (one_shl r 64 (omega arith))
    ∙ elim (cases_lt i r) [
      | inl h ↦ let e : (2 ^ r - 1) / 2 ^ i % 2 ≡ 1 = bit_at_ones r i h in grind (arith, nat_tests)
      | inr h ↦ let e : (2 ^ r - 1) / 2 ^ i % 2 ≡ 0 = bit_at_ones_above r i h in grind (arith, nat_tests)
    ]
