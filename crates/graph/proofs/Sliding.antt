-- Sliding, by the places of before.
use Rattle.std.proofs.Common.{◌≡◌, ℕ, zero, suc, ◌+◌, ◌-◌, ◌<◌, ◌≤◌, Bool, true, false, cond, not, ◌&&◌, ltb, List, length, get_or, sym, refl, ap, ◌∙◌, inl, inr, arith}
use Rattle.std.proofs.lemmas.Bool.{cases_Bool, cases_lt, cases_eq, and_parts, lt-ltb, le-ltb, cond-true, cond-false, false≢true}
use Rattle.scheme.specs.Meaning.{Meaning}
use Rattle.graph.specs.Graph.{Graph, object_at, size, is_record}
use Rattle.graph.specs.Reach.{reachable, total, chosen_size, words_of}
use Rattle.graph.specs.Words.{record_stands, class_stands, record_size, class_size, place_of}
use Rattle.graph.specs.Sound.{Sound}
use Rattle.graph.specs.Sliding.{kept_left, kept_right, Slides, KeptSlide, ReachableSlide}
use Rattle.graph.proofs.Piles.{total-le}
use Rattle.graph.proofs.Frame.{total-sides, size-pos}
use Rattle.graph.proofs.Grow.{total-same}
use Rattle.graph.proofs.Sound.{stands-below, reach-stands}
use Rattle.graph.proofs.Laws.{record-counts, class-counts}
use Rattle.graph.proofs.Reach.{length-reachable, reachable-sound}

-- a sum whose terms from q on are 0
total-cut : (f : ℕ → ℕ) (q n : ℕ) → q ≤ n → total (λ j. cond (ltb j q) (f j) 0) n ≡ total f q
total-cut f q zero h = let e : q ≡ 0 = omega arith in ap (total f) (sym e)
total-cut f q (suc n) h =
    let below = λ (l : q ≤ n). total-cut f q n l in
    elim (cases_eq q (suc n)) [
      | inl e ↦ total-same f (λ j. cond (ltb j q) (f j) 0) (suc n) (λ j l. cond-true _ _ _ (lt-ltb j q (omega arith))) ∙ ap (total f) (sym e)
      | inr ne ↦ let off : cond (ltb n q) (f n) 0 ≡ 0 = cond-false _ _ _ (le-ltb n q (omega arith)) in omega (arith, below (omega arith), off)
    ]

total-fewer : (f h : ℕ → ℕ) (n : ℕ) → ((j : ℕ) → f j ≤ h j) → total f n ≤ total h n
total-fewer f h zero le = omega arith
total-fewer f h (suc n) le = omega (arith, total-fewer f h n le, le n)

-- the places of two objects of one side are in the order of their making
module _ (W : ℕ) (g : Graph) (s : List Bool) (fits : words_of g s ≤ W) (as_long : length s ≡ length g.objects) where
  record-place : (q : ℕ) → is_record (object_at g q) ≡ true → place_of W g s q ≡ total (record_size g s) q
  record-place q e = cond-true _ _ _ e

  class-place : (q : ℕ) → is_record (object_at g q) ≡ false → place_of W g s q ≡ W - total (class_size g s) (suc q)
  class-place q e = cond-false _ _ _ e

  records-rise : (p q : ℕ) → get_or s p false ≡ true → is_record (object_at g p) ≡ true → is_record (object_at g q) ≡ true → p < q → place_of W g s p < place_of W g s q
  records-rise p q here a b l =
      omega (arith, record-place p a, record-place q b, record-counts W g s p here a, size-pos (object_at g p), total-le (record_size g s) (suc p) q l)

  classes-within : (q : ℕ) → get_or s q false ≡ true → total (class_size g s) (suc q) ≤ W
  classes-within q here =
      omega (
        arith,
        stands-below s q here,
        as_long,
        total-le (class_size g s) (suc q) (length g.objects) (omega (arith, stands-below s q here, as_long)),
        total-sides g s (length g.objects),
        fits,
      )

  classes-fall : (p q : ℕ) → get_or s q false ≡ true → is_record (object_at g p) ≡ false → is_record (object_at g q) ≡ false → p < q → place_of W g s q < place_of W g s p
  classes-fall p q there a b l =
      omega (
        arith,
        class-place p a,
        class-place q b,
        class-counts W g s q there b,
        size-pos (object_at g q),
        total-le (class_size g s) (suc p) q l,
        classes-within q there,
      )

  pub record-order : (p q : ℕ) → get_or s p false ≡ true → is_record (object_at g p) ≡ true → is_record (object_at g q) ≡ true → ltb (place_of W g s p) (place_of W g s q) ≡ ltb p q
  record-order p q here a b =
      elim (cases_lt p q) [
        | inl l ↦ lt-ltb _ _ (records-rise p q here a b l) ∙ sym (lt-ltb p q l)
        | inr l ↦ le-ltb _ _ (omega (arith, record-place p a, record-place q b, total-le (record_size g s) q p l)) ∙ sym (le-ltb p q l)
      ]

  pub class-order : (p q : ℕ) → get_or s q false ≡ true → is_record (object_at g p) ≡ false → is_record (object_at g q) ≡ false → ltb (place_of W g s q) (place_of W g s p) ≡ ltb p q
  class-order p q there a b =
      elim (cases_lt p q) [
        | inl l ↦ lt-ltb _ _ (classes-fall p q there a b l) ∙ sym (lt-ltb p q l)
        | inr l ↦ le-ltb _ _ (omega (arith, class-place p a, class-place q b, total-le (class_size g s) (suc q) (suc p) (omega arith))) ∙ sym (le-ltb p q l)
      ]

not-true : (b : Bool) → not b ≡ true → b ≡ false
not-true true e = absurd (false≢true e)
not-true false e = refl

-- a chosen term, where the test that goes with it is another's
term : (x y b : Bool) (n : ℕ) → (x ≡ true → y ≡ b) → cond (x && y) n 0 ≡ cond b (cond x n 0) 0
term true y true n h = ap (λ (c : Bool). cond c n 0) (h refl)
term true y false n h = ap (λ (c : Bool). cond c n 0) (h refl)
term false y true n h = refl
term false y false n h = refl

module _ (m : Meaning) (W : ℕ) (g : Graph) (stood kept : List Bool) (snd : Sound m W g stood) (long : length kept ≡ length g.objects) (stays : (q : ℕ) → get_or kept q false ≡ true → get_or stood q false ≡ true) where
  chosen-fewer : (j : ℕ) → chosen_size g kept j ≤ chosen_size g stood j
  chosen-fewer j =
      elim (cases_Bool (get_or kept j false)) [
        | inl e ↦
            let a = ap (λ (b : Bool). cond b (size (object_at g j)) 0) e in
            let b = ap (λ (b : Bool). cond b (size (object_at g j)) 0) (stays j e) in
            omega (arith, a, b)
        | inr e ↦ let a = ap (λ (b : Bool). cond b (size (object_at g j)) 0) e in omega (arith, a)
      ]

  fits : words_of g kept ≤ W
  fits = omega (arith, total-fewer (chosen_size g kept) (chosen_size g stood) (length g.objects) chosen-fewer, snd.fits)

  below : (q : ℕ) → get_or kept q false ≡ true → q < length g.objects
  below q e = omega (arith, stands-below kept q e, long)

  left-terms : (q : ℕ) → is_record (object_at g q) ≡ true → (j : ℕ) → kept_left W g stood kept q j ≡ cond (ltb j q) (record_size g kept j) 0
  left-terms q b j =
      term (record_stands g kept j) (ltb (place_of W g stood j) (place_of W g stood q)) (ltb j q) (size (object_at g j))
      (λ e. let parts = and_parts (get_or kept j false) (is_record (object_at g j)) e in record-order W g stood snd.fits snd.as_long j q (stays j parts.0) parts.1 b)

  right-terms : (q : ℕ) → get_or kept q false ≡ true → is_record (object_at g q) ≡ false → (j : ℕ) → kept_right W g stood kept q j ≡ cond (ltb j q) (class_size g kept j) 0
  right-terms q here b j =
      term (class_stands g kept j) (ltb (place_of W g stood q) (place_of W g stood j)) (ltb j q) (size (object_at g j))
      (λ e. let parts = and_parts (get_or kept j false) (not (is_record (object_at g j))) e in
      class-order W g stood snd.fits snd.as_long j q (stays q here) (not-true (is_record (object_at g j)) parts.1) b)

  record-slides : (q : ℕ) → get_or kept q false ≡ true → is_record (object_at g q) ≡ true → place_of W g kept q ≡ total (kept_left W g stood kept q) (length g.objects)
  record-slides q here b =
      record-place W g kept fits long q b
      ∙ sym (total-cut (record_size g kept) q (length g.objects) (omega (arith, below q here)))
      ∙ sym (total-same (λ j. cond (ltb j q) (record_size g kept j) 0) (kept_left W g stood kept q) (length g.objects) (λ j l. left-terms q b j))

  class-slides : (q : ℕ) → get_or kept q false ≡ true → is_record (object_at g q) ≡ false → place_of W g kept q + size (object_at g q) ≡ W - total (kept_right W g stood kept q) (length g.objects)
  class-slides q here b =
      let sum : total (kept_right W g stood kept q) (length g.objects) ≡ total (class_size g kept) q =
      total-same (λ j. cond (ltb j q) (class_size g kept j) 0) (kept_right W g stood kept q) (length g.objects) (λ j l. right-terms q here b j)
      ∙ total-cut (class_size g kept) q (length g.objects) (omega (arith, below q here)) in
      omega (arith, sum, class-place W g kept fits long q b, class-counts W g kept q here b, classes-within W g kept fits long q here)

  same-order : (p q : ℕ) → get_or kept p false ≡ true → get_or kept q false ≡ true → is_record (object_at g p) ≡ is_record (object_at g q) → ltb (place_of W g kept p) (place_of W g kept q) ≡ ltb (place_of W g stood p) (place_of W g stood q)
  same-order p q here there e =
      elim (cases_Bool (is_record (object_at g q))) [
        | inl b ↦
            record-order W g kept fits long p q here (e ∙ b) b
            ∙ sym (record-order W g stood snd.fits snd.as_long p q (stays p here) (e ∙ b) b)
        | inr b ↦
            class-order W g kept fits long q p here b (e ∙ b)
            ∙ sym (class-order W g stood snd.fits snd.as_long q p (stays p here) b (e ∙ b))
      ]

  slides : Slides W g stood kept
  slides =
      record {
        records = record-slides;
        classes = class-slides;
        order = same-order;
        oldest_left = λ p q here there a b l. records-rise W g kept fits long p q here a b l;
        oldest_right = λ p q here there a b l. classes-fall W g kept fits long p q there a b l;
      }

pub kept-slide : KeptSlide
kept-slide m W g stood kept snd long stays = slides m W g stood kept snd long stays

pub reachable-slide : ReachableSlide
reachable-slide m W g stood snd =
    let stands = reach-stands m W g stood snd in
    (kept-slide m W g stood (reachable g) snd (length-reachable g) (λ q e. stands q (reachable-sound g q e)), stands)
