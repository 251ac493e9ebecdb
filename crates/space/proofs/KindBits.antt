-- The kind that a header's bits say, by the tests for one kind after another.
use Rattle.std.proofs.Common.{◌≡◌, ℕ, Bool, true, false, Option, Some, None, MatchOption, sym, arith}
use Rattle.std.specs.Option.{option_eq}
use Rattle.std.proofs.lemmas.Bool.{true≢false, false≢true}
use Rattle.codec.specs.Kinds.{shape_number}
use Rattle.codec.specs.declared.header.Shape.{Shape}
use Rattle.codec.specs.declared.header.Shape.TheVariants.{Record, Layout, Map}
use Rattle.codec.specs.contracts.header.ShapePartialEq.TheImpl.{eq-value}

abbrev Told : Option Shape → ℕ → Type 0
Told r n = MatchOption r (n ≡ 3) (λ s. shape_number s ≡ n)

abbrev is_kind : Shape → Option Shape → Bool
is_kind s r = option_eq eq-value.it r (Some s)

pub bits-layout : (r : Option Shape) (n : ℕ) → Told r n → true ≡ is_kind Layout r → n ≡ 1
bits-layout None n t e = absurd (true≢false e)
bits-layout (Some Record) n t e = absurd (true≢false e)
bits-layout (Some Layout) n t e = sym t
bits-layout (Some Map) n t e = absurd (true≢false e)

pub bits-other : (r : Option Shape) (n : ℕ) → Told r n → false ≡ is_kind Layout r → n ≡ 1 → ⊥
bits-other None n t e one = omega (arith, t, one)
bits-other (Some Record) n t e one = omega (arith, t, one)
bits-other (Some Layout) n t e one = false≢true e
bits-other (Some Map) n t e one = omega (arith, t, one)
