-- The bits that say which words of an object hold values.
use Rattle.std.proofs.Common.{◌≡◌, ℕ, ◌+◌, ◌*◌, ◌-◌, ◌/◌, ◌%◌, ◌^◌, ◌<◌, ◌≤◌, zero, suc, Bool, true, false, ◌&&◌, ◌||◌, eqb, ltb, leb, List, slice_index, bit_and, bit_or, w32, w64, refl, sym, ap, ◌∙◌, inl, inr, arith}
use Rattle.std.proofs.lemmas.Nat.{and_le_l}
use Rattle.std.proofs.lemmas.Nat.Bits.{bit_at_and, bit_at_ones, bit_at_ones_above, bit_at_not, bit_at_cat_low, bit_at_cat_high, bit_at_above, bit_at_mask_inside, bit_at_mask_below, bit_at_mask_above, bit_at-lt, bit_at_set_same, bit_at_set_other, bit_at_clear_same, bit_at_clear_other, bit_at-trailing_zeros}
use Rattle.std.proofs.lemmas.Bool.{cases_lt, cases_eq, eq-eqb, eqb-false, ne_eqb, lt-ltb}
use Rattle.std.proofs.lemmas.Bool.Decides.{nat_tests}
use Rattle.std.specs.Int.{bit_at, bit_not, trailing_zeros}
use Rattle.scheme.specs.Meaning.{Meaning, is_raw}
use Rattle.graph.specs.Places.{value_at}
use Rattle.space.specs.Pass.{rule_at}
use Rattle.space.specs.Slots.{values_of, Reads, First}
use Rattle.space.specs.declared.slot.Slots.{Slots}

-- the bits from lo up to hi
block : (lo hi j : ℕ) → lo ≤ hi → eqb (bit_at (2 ^ hi - 2 ^ lo) j) 1 ≡ (leb lo j && ltb j hi)
block lo hi j le =
    elim (cases_lt j lo) [
      | inl l ↦ let e = bit_at_mask_below lo hi j l in grind (arith, nat_tests)
      | inr l ↦
          elim (cases_lt j hi) [
            | inl h ↦ let e = bit_at_mask_inside lo hi j l h in grind (arith, nat_tests)
            | inr h ↦ let e = bit_at_mask_above lo hi j h in grind (arith, nat_tests)
          ]
    ]

-- a layout's map
layout-bits : (m : Meaning) (k r i : ℕ) → k ≡ 1 → eqb (4 / 2 ^ i % 2) 1 ≡ value_at m k r i
layout-bits m k r i e = block 2 3 i (omega arith) ∙ grind (arith, nat_tests)

-- a map's name and parent
map-bits : (m : Meaning) (k r i : ℕ) → 2 ≤ k → eqb (12 / 2 ^ i % 2) 1 ≡ value_at m k r i
map-bits m k r i le = block 2 4 i (omega arith) ∙ grind (arith, nat_tests)

-- the bits of either, which bit 3 of the header tells apart
pub class-bits : (m : Meaning) (h r i : ℕ) → eqb (h / 4 % 4) 0 ≡ false → eqb ((h / 8 % 2 * 8 + 4) / 2 ^ i % 2) 1 ≡ value_at m (h / 4 % 4) r i
class-bits m h r i ne = go (h / 8 % 2) refl
  where
    go : (b : ℕ) → h / 8 % 2 ≡ b → eqb ((b * 8 + 4) / 2 ^ i % 2) 1 ≡ value_at m (h / 4 % 4) r i
    go zero e = layout-bits m (h / 4 % 4) r i (omega (arith, e, eqb-false _ 0 ne))
    go (suc zero) e = map-bits m (h / 4 % 4) r i (omega (arith, e))
    go (suc (suc b)) e = absurd (omega (arith, e))

-- the bits of a record's raw fields, past which there are none
raw-bits : (m : Meaning) (r raw k : ℕ) → raw < 2 ^ 32 → ((i : ℕ) → i < 32 → eqb (raw / 2 ^ i % 2) 1 ≡ is_raw m r i) →
    eqb (bit_at raw k) 1 ≡ is_raw m r k
raw-bits m r raw k fits all =
    elim (cases_lt k 32) [
      | inl l ↦ all k l
      | inr l ↦ let e = bit_at_above raw 32 k fits l in grind (arith, nat_tests)
    ]

-- the bits of a record's header and its raw fields
bits-of : (m : Meaning) (r raw j : ℕ) → raw < 2 ^ 32 → ((i : ℕ) → i < 32 → eqb (raw / 2 ^ i % 2) 1 ≡ is_raw m r i) →
    eqb (bit_at (raw * 4 + 1) j) 1 ≡ (eqb j 0 || (leb 2 j && is_raw m r (j - 2)))
bits-of m r raw j fits all =
    elim (cases_lt j 2) [
      | inl l ↦
          let e : bit_at (raw * 4 + 1) j ≡ bit_at 1 j = bit_at_cat_low raw 2 1 j l in
          let f : eqb (bit_at 1 j) 1 ≡ (leb 0 j && ltb j 1) = block 0 1 j (omega arith) in
          rw (e, f) (grind (arith, nat_tests))
      | inr l ↦
          let e : bit_at (raw * 4 + 1) j ≡ bit_at raw (j - 2) = bit_at_cat_high raw 2 1 j (omega arith) l in
          rw (e, raw-bits m r raw (j - 2) fits all) (grind (arith, nat_tests))
    ]

-- a record's layout and its fields that are not raw
pub record-bits : (m : Meaning) (r raw : ℕ) → raw < 2 ^ 32 → ((i : ℕ) → i < 32 → eqb (raw / 2 ^ i % 2) 1 ≡ is_raw m r i) →
    (i : ℕ) → i < 64 → eqb (bit_not w64 (raw * 4 + 1) / 2 ^ i % 2) 1 ≡ value_at m 0 r i
record-bits m r raw fits all i l =
    let turned = bit_at_not w64 (raw * 4 + 1) i (omega arith) l in
    let bit = bit_at-lt (raw * 4 + 1) i in
    let e = bits-of m r raw i fits all in
    grind (arith, nat_tests)

-- the bits below a place
pub kept-below : (w k i : ℕ) → eqb (bit_at (bit_and w (2 ^ k - 1)) i) 1 ≡ (eqb (bit_at w i) 1 && ltb i k)
kept-below w k i =
    let both = bit_at_and w (2 ^ k - 1) i in
    let bit = bit_at-lt w i in
    elim (cases_lt i k) [
      | inl l ↦ let e = bit_at_ones k i l in grind (arith, nat_tests)
      | inr l ↦ let e = bit_at_ones_above k i l in grind (arith, nat_tests)
    ]

-- the first bit taken out
pub First-lowest : (s : Slots) → 0 < s.values → s.values < 2 ^ 64 →
    let k = trailing_zeros w64 s.values in First s (record { values = bit_and s.values (bit_not w64 (1 * 2 ^ k % 2 ^ 64)) }) k
First-lowest s pos fits =
    let k : ℕ = trailing_zeros w64 s.values in
    let left : ℕ = bit_and s.values (bit_not w64 (1 * 2 ^ k % 2 ^ 64)) in
    let lowest = bit_at-trailing_zeros w64 s.values pos fits in
    let gone : bit_at left k ≡ 0 = bit_at_clear_same w64 s.values k lowest.0 in
    record {
      small = lowest.0;
      holds = eq-eqb _ 1 lowest.1;
      first = λ i l. ne_eqb _ 1 (omega (arith, lowest.2 i l));
      rest = λ i l. elim (cases_eq i k) [
        | inl e ↦ grind (arith, nat_tests)
        | inr ne ↦ let e = bit_at_clear_other w64 s.values k lowest.0 i l ne in grind (arith, nat_tests)
      ];
      -- it is not more, and it is not the same, for the bit is gone
      fewer = elim (cases_eq left s.values) [
        | inl e ↦ absurd (omega (arith, gone, lowest.1, ap (λ (x : ℕ). bit_at x k) e))
        | inr ne ↦ omega (arith, and_le_l s.values (bit_not w64 (1 * 2 ^ k % 2 ^ 64)))
      ];
    }

-- the slots of an object by its kind
pub record-reads : (m : Meaning) (ws : List ℕ) (p h : ℕ) (s : Slots) → h / 4 % 4 ≡ 0 →
    ((i : ℕ) → i < 64 → values_of s i ≡ value_at m 0 (rule_at (slice_index ws) p) i) → Reads m ws p h s
record-reads m ws p h s e all =
    record { rule = rule_at (slice_index ws) p; ruled = λ _. refl; values = λ i l. all i l ∙ ap (λ (k : ℕ). value_at m k (rule_at (slice_index ws) p) i) (sym e) }

-- of a class no rule applies, so any will do
pub class-reads : (m : Meaning) (ws : List ℕ) (p h : ℕ) (s : Slots) → eqb (h / 4 % 4) 0 ≡ false →
    ((m : Meaning) (r i : ℕ) → eqb (h / 4 % 4) 0 ≡ false → i < 64 → values_of s i ≡ value_at m (h / 4 % 4) r i) → Reads m ws p h s
class-reads m ws p h s ne all = record { rule = 0; ruled = λ z. absurd (eqb-false _ 0 ne z); values = λ i l. all m 0 i ne l }

-- The bits of a set are gathered one after another: of the numbers below i they tell f.
abbrev pub Gathered : (ℕ → Bool) → ℕ → ℕ → Type 0
Gathered f v i = (k : ℕ) → k < 32 → eqb (v / 2 ^ k % 2) 1 ≡ (ltb k i && f k)

at-next : (f : ℕ → Bool) (i : ℕ) → (ltb i (i + 1) && f i) ≡ f i
at-next f i = ap (λ (b : Bool). b && f i) (lt-ltb i (i + 1) (omega arith))

below-next : (f : ℕ → Bool) (k i : ℕ) → (k ≡ i → ⊥) → (ltb k i && f k) ≡ (ltb k (i + 1) && f k)
below-next f k i n = let e : ltb k i ≡ ltb k (i + 1) = grind (arith, nat_tests) in ap (λ (b : Bool). b && f k) e

pub gather-one : (f : ℕ → Bool) (v i : ℕ) → f i ≡ true → i < 32 → Gathered f v i → Gathered f (bit_or v (1 * 2 ^ i % 2 ^ 32)) (i + 1)
gather-one f v i e h all k l =
    elim (cases_eq k i) [
      | inl z ↦ rw z (ap (λ (x : ℕ). eqb x 1) (bit_at_set_same w32 v i h) ∙ sym (at-next f i ∙ e))
      | inr n ↦ ap (λ (x : ℕ). eqb x 1) (bit_at_set_other w32 v i h k n) ∙ all k l ∙ below-next f k i n
    ]

pub gather-none : (f : ℕ → Bool) (v i : ℕ) → f i ≡ false → i < 32 → Gathered f v i → Gathered f v (i + 1)
gather-none f v i e h all k l =
    elim (cases_eq k i) [
      | inl z ↦ rw z (all i h ∙ ap (λ (b : Bool). ltb i i && b) e ∙ and-none (ltb i i) ∙ sym (at-next f i ∙ e))
      | inr n ↦ all k l ∙ below-next f k i n
    ]
  where
    and-none : (b : Bool) → (b && false) ≡ false
    and-none true = refl
    and-none false = refl
