-- A line is the five names in one way.
use Rattle.std.proofs.Common.{◌≡◌, ℕ, ◌+◌, ◌<◌, true, false, ◌||◌, eqb, List, [], ◌∷◌, length, get_or, sym, refl, ap, ◌∙◌, inl, inr, arith}
use Rattle.std.specs.List.{AllByRecursion, IsDistinct, list_any}
use Rattle.std.proofs.lemmas.Bool.{cases_lt, cases_eq, cases_Bool, eqb-true, eqb-false, ne_eqb, false≢true}
use Rattle.std.proofs.lemmas.Map.Steps.{length-le_from_distinct_below}
use Rattle.std.proofs.lemmas.List.{get_or_past}
use Rattle.lexer.specs.Pieces.{pieces}
use Rattle.load.specs.declared.names.Columns.{Columns}
use Rattle.load.specs.Names.{Named}

abbrev Apart : ℕ → ℕ → Type 0
Apart x y = x ≡ y → ⊥

below-each : (xs : List ℕ) (n q : ℕ) → AllByRecursion (λ y. y < n) xs → list_any (eqb q) xs ≡ true → q < n
below-each [] n q each e = absurd (false≢true e)
below-each (x ∷ xs) n q each e =
    elim (cases_Bool (eqb q x)) [
      | inl f ↦ let same = eqb-true q x f in omega (arith, each.0)
      | inr f ↦ below-each xs n q each.1 (sym (ap (λ b. b || list_any (eqb q) xs) f) ∙ e)
    ]

-- of five places, one that is none of four is the fifth
fifth : (x k a b c d : ℕ) → x < 5 → k < 5 → a < 5 → b < 5 → c < 5 → d < 5 → Apart k a → Apart k b → Apart k c → Apart k d → Apart a b → Apart a c → Apart a d → Apart b c → Apart b d → Apart c d
    → Apart x a → Apart x b → Apart x c → Apart x d → x ≡ k
unfolding IsDistinct
fifth x k a b c d lx lk la lb lc ld ka kb kc kd ab ac ad bc bd cd xa xb xc xd =
    elim (cases_eq x k) [
      | inl e ↦ e
      | inr ne ↦
          let xs : List ℕ = x ∷ k ∷ a ∷ b ∷ c ∷ d ∷ [] in
          let distinct : IsDistinct eqb xs = (
            (ne_eqb x k ne, (ne_eqb x a xa, (ne_eqb x b xb, (ne_eqb x c xc, (ne_eqb x d xd, tt))))),
            (
              (ne_eqb k a ka, (ne_eqb k b kb, (ne_eqb k c kc, (ne_eqb k d kd, tt)))),
              (
                (ne_eqb a b ab, (ne_eqb a c ac, (ne_eqb a d ad, tt))),
                (
                  (ne_eqb b c bc, (ne_eqb b d bd, tt)),
                  (
                    (ne_eqb c d cd, tt),
                    (tt, tt),
                  ),
                ),
              ),
            ),
          ) in
          let many = length-le_from_distinct_below xs 5 distinct (λ q. below-each xs 5 q (lx, (lk, (la, (lb, (lc, (ld, tt))))))) in
          absurd (omega arith)
    ]

-- a number that tells the five names apart
abbrev key : List ℕ → ℕ
key name = get_or name 0 0 + length name

module _ (vs : List (List ℕ)) (five : length vs ≡ 5) where
  abbrev at : ℕ → ℕ
  at p = key (get_or vs p [])

  within : (p i : ℕ) → 0 < i → at p ≡ i → p < 5
  within p i some e =
      elim (cases_lt p 5) [
        | inl l ↦ l
        | inr l ↦ let none : at p ≡ 0 = ap key (get_or_past vs p [] (omega arith)) in absurd (omega arith)
      ]

  apart : (p q i j : ℕ) → eqb i j ≡ false → at p ≡ i → at q ≡ j → Apart p q
  apart p q i j differ e f same = eqb-false i j differ (sym e ∙ ap at same ∙ f)

  -- a place of the first of five names, where each has a place
  same : (i j k l m : ℕ) → 0 < i → 0 < j → 0 < k → 0 < l → 0 < m → IsDistinct eqb (i ∷ j ∷ k ∷ l ∷ m ∷ []) → (x p a b c d : ℕ) → at x ≡ i → at p ≡ i → at a ≡ j → at b ≡ k → at c ≡ l → at d ≡ m → x ≡ p
  unfolding IsDistinct
  same i j k l m li lj lk ll lm differ x p a b c d ex ep ea eb ec ed =
      let first = differ.0 in
      let second = differ.1.0 in
      let third = differ.1.1.0 in
      let fourth = differ.1.1.1.0 in
      fifth x p a b c d (within x i li ex) (within p i li ep) (within a j lj ea) (within b k lk eb) (within c l ll ec) (within d m lm ed)
      (apart p a i j first.0 ep ea) (apart p b i k first.1.0 ep eb) (apart p c i l first.1.1.0 ep ec) (apart p d i m first.1.1.1.0 ep ed)
      (apart a b j k second.0 ea eb) (apart a c j l second.1.0 ea ec) (apart a d j m second.1.1.0 ea ed)
      (apart b c k l third.0 eb ec) (apart b d k m third.1.0 eb ed) (apart c d l m fourth.0 ec ed)
      (apart x a i j first.0 ex ea) (apart x b i k first.1.0 ex eb) (apart x c i l first.1.1.0 ex ec) (apart x d i m first.1.1.1.0 ex ed)

-- the five numbers, from each of them on
abbrev FromEach : (i j k l m : ℕ) → Type 0
FromEach i j k l m = IsDistinct eqb (i ∷ j ∷ k ∷ l ∷ m ∷ [])

call-first : FromEach 103 98 99 100 101
unfolding IsDistinct
call-first = ((refl, (refl, (refl, (refl, tt)))), ((refl, (refl, (refl, tt))), ((refl, (refl, tt)), ((refl, tt), (tt, tt)))))

a_first : FromEach 98 99 100 101 103
unfolding IsDistinct
a_first = ((refl, (refl, (refl, (refl, tt)))), ((refl, (refl, (refl, tt))), ((refl, (refl, tt)), ((refl, tt), (tt, tt)))))

b_first : FromEach 99 100 101 103 98
unfolding IsDistinct
b_first = ((refl, (refl, (refl, (refl, tt)))), ((refl, (refl, (refl, tt))), ((refl, (refl, tt)), ((refl, tt), (tt, tt)))))

c_first : FromEach 100 101 103 98 99
unfolding IsDistinct
c_first = ((refl, (refl, (refl, (refl, tt)))), ((refl, (refl, (refl, tt))), ((refl, (refl, tt)), ((refl, tt), (tt, tt)))))

d_first : FromEach 101 103 98 99 100
unfolding IsDistinct
d_first = ((refl, (refl, (refl, (refl, tt)))), ((refl, (refl, (refl, tt))), ((refl, (refl, tt)), ((refl, tt), (tt, tt)))))

-- a line is the five names in one way
pub named_once : (line : List ℕ) (x y : Columns) → Named x line → Named y line → x ≡ y
named_once line x y f g =
    let vs = pieces line in
    let five = f.shaped.1 in
    let call = ap key f.at_call in
    let a = ap key f.at_a in
    let b = ap key f.at_b in
    let c = ap key f.at_c in
    let d = ap key f.at_d in
    let call-same : x.call ≡ y.call = sym (same vs five 103 98 99 100 101 (omega arith) (omega arith) (omega arith) (omega arith) (omega arith) call-first y.call x.call x.a x.b x.c x.d (ap key g.at_call) call a b c d) in
    let a-same : x.a ≡ y.a = sym (same vs five 98 99 100 101 103 (omega arith) (omega arith) (omega arith) (omega arith) (omega arith) a_first y.a x.a x.b x.c x.d x.call (ap key g.at_a) a b c d call) in
    let b-same : x.b ≡ y.b = sym (same vs five 99 100 101 103 98 (omega arith) (omega arith) (omega arith) (omega arith) (omega arith) b_first y.b x.b x.c x.d x.call x.a (ap key g.at_b) b c d call a) in
    let c-same : x.c ≡ y.c = sym (same vs five 100 101 103 98 99 (omega arith) (omega arith) (omega arith) (omega arith) (omega arith) c_first y.c x.c x.d x.call x.a x.b (ap key g.at_c) c d call a b) in
    let d-same : x.d ≡ y.d = sym (same vs five 101 103 98 99 100 (omega arith) (omega arith) (omega arith) (omega arith) (omega arith) d_first y.d x.d x.call x.a x.b x.c (ap key g.at_d) d call a b c) in
    let whole : ◌≡◌ {A = Columns} (record { call = x.call; a = x.a; b = x.b; c = x.c; d = x.d }) (record { call = y.call; a = y.a; b = y.b; c = y.c; d = y.d }) = cc in
    whole
