-- The nearest whole number, and that there is one alone.
use Rattle.std.proofs.Common.{◌≡◌, ℕ, zero, suc, ◌+◌, ◌*◌, ◌/◌, ◌%◌, ◌<◌, ◌≤◌, refl, inl, inr, arith}
use Rattle.std.proofs.lemmas.Bool.{cases_order}
use Rattle.std.proofs.lemmas.Nat.{div-add-mod', mod_below}
use Rattle.std.proofs.Math.Nat.{mul-le-mul_right}
use Rattle.graph.specs.Step.{percent}
use Rattle.graph.specs.Nearest.{NearestPercent, FillOf, FillIsNearest}

-- two that are nearest: one is not less than the other
not_less : (live W p q : ℕ) → NearestPercent live W p → NearestPercent live W q → p < q → ⊥
not_less live W p q a b l =
    let more : (p + 1) * W ≤ q * W = mul-le-mul_right W (omega (arith, l)) in
    let step : (p + 1) * W ≡ p * W + W = omega arith in
    omega (arith, more, step, a.not_below, b.not_above)

one : (live W p q : ℕ) → NearestPercent live W p → NearestPercent live W q → p ≡ q
one live W p q a b =
    elim (cases_order p q) [
      | inl e ↦ e
      | inr f ↦ elim f [ inl l ↦ absurd (not_less live W p q a b l) | inr l ↦ absurd (not_less live W q p b a l) ]
    ]

-- the quotient, with what is left
by_left : (live W q r : ℕ) → q * (2 * W) + r ≡ 200 * live + W → r < 2 * W → NearestPercent live W q
by_left live W q r e l =
    let twice : q * (2 * W) ≡ 2 * (q * W) = omega arith in
    record { not_above = omega (arith, e, twice); not_below = omega (arith, e, twice, l) }

is_nearest : (live w : ℕ) → NearestPercent live (suc w) (percent live (suc w))
is_nearest live w =
    let n = 200 * live + suc w in
    let d = 2 * suc w in
    by_left live (suc w) (n / d) (n % d) (div-add-mod' n d) (mod_below n d (omega arith))

fill_of : (live W : ℕ) → FillOf live W (percent live W)
fill_of live zero = record { nearest = λ l. absurd (omega (arith, l)); none = λ e. refl }
fill_of live (suc w) = record { nearest = λ l. is_nearest live w; none = λ e. absurd (omega (arith, e)) }

only : (live W p : ℕ) → FillOf live W p → p ≡ percent live W
only live zero p f = f.none refl
only live (suc w) p f = one live (suc w) p (percent live (suc w)) (f.nearest (omega arith)) (is_nearest live w)

pub fill-is-nearest : FillIsNearest
fill-is-nearest live W = (fill_of live W, λ p f. only live W p f)
