-- The words that a collection leaves.
use Rattle.std.proofs.Common.{◌≡◌, ℕ, zero, suc, ◌+◌, ◌-◌, ◌*◌, ◌/◌, ◌<◌, ◌≤◌, Bool, true, false, cond, ◌&&◌, eqb, leb, ◌⊎◌, List, [], ◌++◌, length, get_or, sym, refl, ap, ◌∙◌, ap₂, inl, inr, arith}
use Rattle.std.proofs.lemmas.Bool.{cases_Bool, and_left, cond-true, cond-false, ne_eqb, eq-eqb, lt-ltb, leb-true, le-leb, lt-leb, cases_eq}
use Rattle.std.proofs.lemmas.List.{get_or-map}
use Rattle.scheme.specs.Meaning.{Meaning}
use Rattle.graph.specs.Graph.{Value, empty, number, object, Object, a_record, a_layout, a_map, Graph, held, object_at, size, is_record}
use Rattle.graph.specs.Reach.{chosen_size, words_of}
use Rattle.graph.specs.Words.{place_of, record_size, class_size, reference, header, header_kind, value_word, object_words, image, handle_words, low_end, high_end}
use Rattle.graph.specs.Sound.{Sound}
use Rattle.graph.proofs.Piles.{total-le}
use Rattle.graph.proofs.Laws.{references-read, headers-read, record-counts}
use Rattle.space.specs.Collect.{Base}
use Rattle.graph.proofs.Places.{word_in, zero-at, rest_at, below-many, owned_by, record-place, class-place}
use Rattle.space.specs.Weave.{renewed}
use Rattle.space.specs.Weave.{reference as refer}
use Rattle.space.specs.Pass.{renew, unmarked_at}
use Rattle.graph.specs.Places.{is_object, refers_at, owner}
use Rattle.space.specs.Layout.{Keeps, slot_of, plan}
use Rattle.graph.proofs.Slots.{refers_to, plain_word}
use Rattle.space.proofs.Plans.{word_at, head-word, handle-at, slot_at, new-at, owner-past, kind-four}
use Rattle.graph.proofs.Totals.{total-fewer, cond-less}

-- the graph with the kept objects alone is sound
pub kept-sound : (m : Meaning) (W : ℕ) (g : Graph) (s k : List Bool) → Keeps m W g s k → Sound m W g k
kept-sound m W g s k kp =
    let so = kp.sound in
    record {
      handles_32 = so.handles_32;
      as_long = kp.as_long;
      fits = omega (arith, so.fits, total-fewer (chosen_size g k) (chosen_size g s) (λ q. cond-less (get_or k q false) (get_or s q false) (size (object_at g q)) (kp.stand q)) (length g.objects));
      held_stands = kp.held_kept;
      named_stands = kp.named_kept;
      within = so.within;
      formed = so.formed;
      held_numbers = so.held_numbers;
      numbers = so.numbers;
    }

tag_of : (o : Object) → cond (eqb (header_kind o) 0) 2 3 ≡ cond (is_record o) 2 (3 + 0)
tag_of (a_record l cells) = refl
tag_of (a_layout c n) = refl
tag_of (a_map r n p) = refl

unmark : (kind words : ℕ) → header true kind words - 2 ≡ header false kind words
unmark kind words = omega arith

module _ (m : Meaning) (W : ℕ) (g : Graph) (s k : List Bool) (kp : Keeps m W g s k) (rest : List ℕ) where
  fits-k : words_of g k ≤ W
  fits-k = (kept-sound m W g s k kp).fits

  -- the words of the packed image
  pub final-at : (q i : ℕ) → get_or k q false ≡ true → i < size (object_at g q) → place_of W g k q + i < W → get_or (image W g k [] ++ rest) (place_of W g k q + i) 0 ≡ get_or (object_words (reference W g k) false (object_at g q)) i 0
  final-at q i e l lw = word_in W g k fits-k kp.as_long [] rest q i e l

  -- a renewed reference
  pub renewed-ref : (t w : ℕ) → w ≡ reference W g s t → get_or k t false ≡ true → renewed (plan W g s k rest).new (plan W g s k rest).words (w / 4) ≡ reference W g k t
  renewed-ref t w e kt =
      let st = kp.stand t kt in
      ap (λ (x : ℕ). renewed (plan W g s k rest).new (plan W g s k rest).words (x / 4)) e
      ∙ ap (renewed (plan W g s k rest).new (plan W g s k rest).words) (references-read W g s t).place
      ∙ ap₂ refer (new-at m W g s k kp rest t st) (head-word m W g s k kp rest t st)
      ∙ ap (λ (x : ℕ). place_of W g k t * 4 + cond (eqb x 0) 2 3) (headers-read (get_or k t false) (header_kind (object_at g t)) (size (object_at g t)) (kind-four (object_at g t))).kinds
      ∙ ap (λ (x : ℕ). place_of W g k t * 4 + x) (tag_of (object_at g t))

  -- a kept object's words, renewed
  pub word-renewed : (q i : ℕ) → get_or k q false ≡ true → i < size (object_at g q) →
      renew (plan W g s k rest) (plan W g s k rest).slot (place_of W g s q + i) ≡ get_or (object_words (reference W g k) true (object_at g q)) i 0
  word-renewed q i kq l = go (refers_at (object_at g q) i) refl
    where
      st : get_or s q false ≡ true
      st = kp.stand q kq

      slot : (b : Bool) → refers_at (object_at g q) i ≡ b → (plan W g s k rest).slot (place_of W g s q + i) ≡ b
      slot b f = slot_at m W g s k kp rest q i st l ∙ ap₂ ◌&&◌ kq f

      go : (b : Bool) → refers_at (object_at g q) i ≡ b → renew (plan W g s k rest) (plan W g s k rest).slot (place_of W g s q + i) ≡ get_or (object_words (reference W g k) true (object_at g q)) i 0
      go true f =
          let r = refers_to (object_at g q) i f l in
          cond-true _ _ _ (slot true f)
          ∙ renewed-ref r.0 _ (word_at m W g s k kp rest q i st l ∙ r.2 (reference W g s) (get_or k q false)) (kp.named_kept q r.0 kq r.1)
          ∙ sym (r.2 (reference W g k) true)
      go false f =
          cond-false _ _ _ (slot false f)
          ∙ word_at m W g s k kp rest q i st l
          ∙ ap (λ (b : Bool). get_or (object_words (reference W g s) b (object_at g q)) i 0) kq
          ∙ same (cases_eq i 0)
        where
          same : (i ≡ 0) ⊎ (i ≡ 0 → ⊥) → get_or (object_words (reference W g s) true (object_at g q)) i 0 ≡ get_or (object_words (reference W g k) true (object_at g q)) i 0
          same (inl e) = ap (λ (x : ℕ). get_or (object_words (reference W g s) true (object_at g q)) x 0) e ∙ sym (ap (λ (x : ℕ). get_or (object_words (reference W g k) true (object_at g q)) x 0) e)
          same (inr ne) = plain_word (object_at g q) i f (omega arith) l (reference W g s) (reference W g k) true true

  -- and unmarked
  pub word-final : (q i : ℕ) → get_or k q false ≡ true → i < size (object_at g q) →
      unmarked_at i (renew (plan W g s k rest) (plan W g s k rest).slot (place_of W g s q + i)) ≡ get_or (object_words (reference W g k) false (object_at g q)) i 0
  word-final q i kq l = ap (unmarked_at i) (word-renewed q i kq l) ∙ go (cases_eq i 0)
    where
      mark-off : (o : Object) (i : ℕ) → (i ≡ 0 → ⊥) → get_or (object_words (reference W g k) true o) i 0 ≡ get_or (object_words (reference W g k) false o) i 0
      mark-off o zero ne = absurd (ne refl)
      mark-off o (suc i) ne = refl

      go : (i ≡ 0) ⊎ (i ≡ 0 → ⊥) → unmarked_at i (get_or (object_words (reference W g k) true (object_at g q)) i 0) ≡ get_or (object_words (reference W g k) false (object_at g q)) i 0
      go (inl e) =
          cond-true _ _ _ (eq-eqb i 0 e)
          ∙ ap (λ (x : ℕ). get_or (object_words (reference W g k) true (object_at g q)) x 0 - 2) e
          ∙ unmark (header_kind (object_at g q)) (size (object_at g q))
          ∙ ap (λ (x : ℕ). get_or (object_words (reference W g k) false (object_at g q)) x 0) (sym e)
      go (inr ne) = cond-false _ _ _ (ne_eqb i 0 ne) ∙ mark-off (object_at g q) i ne

  -- words of no object
  pub renew-past : (a : ℕ) → W ≤ a → a < 16384 → renew (plan W g s k rest) (plan W g s k rest).slot a ≡ get_or rest (a - W) 0
  renew-past a x y =
      cond-false _ _ _ (ap (λ o. slot_of W g s k o a) (owner-past m W g s k kp rest a x) ∙ and_left _ _ (low a y))
      ∙ cond-true _ _ _ (lt-ltb a 16384 y)
      ∙ rest_at W g rest s k kp.sound.fits a x
    where
      low : (a : ℕ) → a < 16384 → leb 16384 a ≡ false
      low a l = lt-leb' 16384 a l
        where
          lt-leb' : (n a : ℕ) → a < n → leb n a ≡ false
          lt-leb' n a h = elim (cases_Bool (leb n a)) [ inl e ↦ absurd (omega (arith, leb-true n a e)) | inr e ↦ e ]

  -- a handle's word
  pub renew-handle : (h : ℕ) → h < 32 → renew (plan W g s k rest) (plan W g s k rest).slot (16384 + h) ≡ get_or (handle_words W g k) h 0
  renew-handle h l = go (held g h) refl ∙ sym (get_or-map (value_word (reference W g k)) g.handles h empty 0 (omega (arith, kp.sound.handles_32)))
    where
      back : 16384 + h - 16384 ≡ h
      back = omega arith

      slot : (plan W g s k rest).slot (16384 + h) ≡ is_object (held g h)
      slot =
          ap (λ o. slot_of W g s k o (16384 + h)) (owner-past m W g s k kp rest (16384 + h) (omega (arith, kp.limit)))
          ∙ ap₂ (λ (x y : Bool). x && (y && is_object (held g (16384 + h - 16384)))) (le-leb 16384 (16384 + h) (omega arith)) (lt-ltb (16384 + h) 16416 (omega arith))
          ∙ ap (λ (x : ℕ). is_object (held g x)) back

      go : (v : Value) → held g h ≡ v → renew (plan W g s k rest) (plan W g s k rest).slot (16384 + h) ≡ value_word (reference W g k) (held g h)
      go empty e = cond-false _ _ _ (slot ∙ ap is_object e) ∙ handle-at m W g s k kp rest h l ∙ ap (value_word (reference W g s)) e ∙ sym (ap (value_word (reference W g k)) e)
      go (number n) e = cond-false _ _ _ (slot ∙ ap is_object e) ∙ handle-at m W g s k kp rest h l ∙ ap (value_word (reference W g s)) e ∙ sym (ap (value_word (reference W g k)) e)
      go (object t) e =
          cond-true _ _ _ (slot ∙ ap is_object e)
          ∙ renewed-ref t _ (handle-at m W g s k kp rest h l ∙ ap (value_word (reference W g s)) e) (kp.held_kept h t e)
          ∙ sym (ap (value_word (reference W g k)) e)

  -- a word between the sides
  renew-between : (a : ℕ) → low_end g s ≤ a → a < high_end W g s → renew (plan W g s k rest) (plan W g s k rest).slot a ≡ 0
  renew-between a x y =
      let lim = kp.limit in
      let low : a < 16384 = omega arith in
      cond-false _ _ _ (go (owner W g s (length g.objects) a) refl low)
      ∙ cond-true _ _ _ (lt-ltb a 16384 low)
      ∙ zero-at W g rest s k kp.sound.fits a x y
    where
      go : (o : ℕ) → owner W g s (length g.objects) a ≡ o → a < 16384 → slot_of W g s k o a ≡ false
      go zero e l = and_left _ _ (lt-leb 16384 a l)
      go (suc q) e l =
          let N = length g.objects in
          let fits = kp.sound.fits in
          let i = owned_by W g s fits kp.sound.as_long N q a e in
          let lq = below-many W g s fits kp.sound.as_long q i.stands in
          let from = i.from in
          let below = i.below in
          elim (cases_Bool (is_record (object_at g q))) [
            | inl r ↦ absurd (omega (arith, record-place W g s fits kp.sound.as_long q r, record-counts W g s q i.stands r, total-le (record_size g s) (suc q) N lq))
            | inr r ↦ absurd (omega (arith, class-place W g s fits kp.sound.as_long q r, total-le (class_size g s) (suc q) N lq))
          ]

  pub base-reads : Base W g s k rest (renew (plan W g s k rest) (plan W g s k rest).slot)
  base-reads =
      record {
        kept = word-renewed;
        garbage = λ q i st nk l.
            cond-false _ _ _ (slot_at m W g s k kp rest q i st l ∙ and_left _ _ nk)
            ∙ word_at m W g s k kp rest q i st l
            ∙ ap (λ (b : Bool). get_or (object_words (reference W g s) b (object_at g q)) i 0) nk;
        handles = renew-handle;
        between = renew-between;
        past = renew-past;
      }
