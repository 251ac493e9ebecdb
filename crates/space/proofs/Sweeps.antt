-- The loop over the words of an object that hold values, or over the handles: what it passes over holds none.
use Rattle.std.proofs.Common.{◌≡◌, ℕ, zero, suc, ◌+◌, ◌-◌, ◌%◌, ◌<◌, ◌≤◌, Bool, true, false, not, ◌&&◌, eqb, ltb, add-zero, sym, refl, ap, ◌∙◌, subst, inl, inr, arith}
use Rattle.std.proofs.lemmas.Bool.{both_ways, cases_lt, cases_eq, eq-eqb, ne_eqb, lt-ltb}
use Rattle.std.proofs.lemmas.Bool.Decides.{nat_tests}
use Rattle.scheme.specs.Meaning.{Meaning}
use Rattle.graph.specs.Places.{value_at}
use Rattle.space.specs.declared.slot.Slots.{Slots}
use Rattle.space.specs.Slots.{values_of, First}

-- S holds from the word `start` up to the word `at`; the values from there on are left, and none before
pub record Sweep (all left : Slots) (start size : ℕ) (S : ℕ → Type 0) : Type 0 where
  pub at : ℕ
  pub some : start ≤ at
  pub most : at ≤ size
  pub state : S at
  pub before : (k : ℕ) → k < at → k < 64 → values_of left k ≡ false
  pub after : (k : ℕ) → at ≤ k → k < 64 → values_of left k ≡ values_of all k

pub steps : (S : ℕ → Type 0) (n a : ℕ) → ((k : ℕ) → a ≤ k → k < a + n → S k → S (k + 1)) → S a → S (a + n)
steps S zero a f s = subst S (sym (add-zero a)) s
steps S (suc n) a f s =
    let e : a + n + 1 ≡ a + suc n = omega arith in
    subst S e (f (a + n) (omega arith) (omega arith) (steps S n a (λ k l h. f k l (omega arith)) s))

and-no : (b : Bool) → (b && not true) ≡ false
and-no true = refl
and-no false = refl

and-yes : (b : Bool) → (b && not false) ≡ b
and-yes true = refl
and-yes false = refl

-- of the words of an object all values are there
pub in_object : (all few : Slots) (size : ℕ) → size ≤ 34 → ((i : ℕ) → i < 64 → values_of few i ≡ (values_of all i && ltb i (size % 64))) → (k : ℕ) → k < size → values_of few k ≡ values_of all k
in_object all few size most below k l = below k (omega arith) ∙ ap (λ (b : Bool). values_of all k && b) (lt-ltb k (size % 64) (omega arith)) ∙ and-true (values_of all k)
  where
    and-true : (b : Bool) → (b && true) ≡ b
    and-true true = refl
    and-true false = refl

-- and its header is none
pub header-no-value : (m : Meaning) (kind rule : ℕ) → value_at m kind rule 0 ≡ false
header-no-value m kind rule = grind (arith, nat_tests)

module _ {all left : Slots} {start size : ℕ} {S : ℕ → Type 0} (w : Sweep all left start size S) where
  -- the first value that is left
  pub sweep_from : (rest : Slots) (i : ℕ) → First left rest i → w.at ≤ i
  sweep_from rest i f = elim (cases_lt i w.at) [ inl l ↦ absurd (both_ways (values_of left i) (w.before i l f.small) f.holds) | inr l ↦ l ]

  -- up to the first value that is left
  pub sweep-to : (rest : Slots) (i : ℕ) → First left rest i → ((k : ℕ) → start ≤ k → k < i → values_of all k ≡ false → S k → S (k + 1)) → S i
  sweep-to rest i f pass =
      let from = sweep_from rest i f in
      let some = w.some in
      let e : w.at + (i - w.at) ≡ i = omega arith in
      subst S e (steps S (i - w.at) w.at (λ k l h. pass k (omega arith) (omega arith) (sym (w.after k l (omega (arith, f.small))) ∙ f.first k (omega arith))) w.state)

  -- and over it
  pub sweep_on : {T : ℕ → Type 0} (rest : Slots) (i : ℕ) → First left rest i → i < size → T (i + 1) → Sweep all rest start size T
  sweep_on rest i f l s =
      let from = sweep_from rest i f in
      let some = w.some in
      record {
        at = i + 1;
        some = omega arith;
        most = omega arith;
        state = s;
        before = λ k h small. f.rest k small ∙ elim (cases_eq k i) [
          | inl e ↦ ap (λ (b : Bool). values_of left k && not b) (eq-eqb k i e) ∙ and-no (values_of left k)
          | inr ne ↦ ap (λ (b : Bool). b && not (eqb k i)) (f.first k (omega arith))
        ];
        after = λ k h small. f.rest k small ∙ ap (λ (b : Bool). values_of left k && not b) (ne_eqb k i (λ e. omega arith)) ∙ and-yes (values_of left k) ∙ w.after k (omega arith) small;
      }

  -- to the end, where none is left
  pub sweep-end : ((k : ℕ) → values_of left k ≡ false) → size ≤ 64 → ((k : ℕ) → start ≤ k → k < size → values_of all k ≡ false → S k → S (k + 1)) → S size
  sweep-end none l pass =
      let some = w.some in
      let most = w.most in
      let e : w.at + (size - w.at) ≡ size = omega arith in
      subst S e (steps S (size - w.at) w.at (λ k h i. pass k (omega arith) (omega arith) (sym (w.after k h (omega arith)) ∙ none k)) w.state)

-- at the first word behind the header, which holds no value
pub sweep_start : (all : Slots) (size : ℕ) {S : ℕ → Type 0} → 0 < size → values_of all 0 ≡ false → S 1 → Sweep all all 1 size S
sweep_start all size l none s =
    record { at = 1; some = omega arith; most = l; state = s; before = λ k h small. let e : k ≡ 0 = omega arith in ap (values_of all) e ∙ none; after = λ k h small. refl }

-- at the first handle
pub sweep_first : (all : Slots) (size : ℕ) {S : ℕ → Type 0} → S 0 → Sweep all all 0 size S
sweep_first all size s = record { at = 0; some = omega arith; most = omega arith; state = s; before = λ k h small. absurd (omega (arith, h)); after = λ k h small. refl }

-- only handles are left
pub only_handles : (all : Slots) → ((h : ℕ) → 32 ≤ h → values_of all h ≡ false) → (h : ℕ) → h < 64 → values_of all h ≡ true → h < 32
only_handles all none h small v = elim (cases_lt h 32) [ inl l ↦ l | inr l ↦ absurd (both_ways (values_of all h) (none h l) v) ]
