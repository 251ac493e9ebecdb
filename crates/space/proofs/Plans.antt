-- The plan of a graph is sound, and its objects are where it says.
use Rattle.std.proofs.Common.{◌≡◌, ℕ, zero, suc, ◌+◌, ◌-◌, ◌/◌, ◌%◌, ◌<◌, ◌≤◌, Bool, true, false, cond, ◌&&◌, eqb, leb, ◌⊎◌, List, length, get_or, sym, refl, ap, ◌∙◌, subst, ap₂, inl, inr, add-zero, arith}
use Rattle.std.proofs.lemmas.Bool.{both_ways, false≢true, cases_Bool, and_parts, and_left, cond-true, cond-false, ne_eqb, eq-eqb, eqb-true, lt-ltb, le-ltb, ltb-true, leb-true, le-leb}
use Rattle.std.proofs.lemmas.List.{get_or-map}
use Rattle.std.proofs.lemmas.Bool.Decides.{nat_tests}
use Rattle.scheme.specs.Meaning.{Meaning}
use Rattle.graph.specs.Graph.{Value, empty, number, object, Cell, Object, a_record, a_layout, a_map, Graph, held, object_at, size, is_record}
use Rattle.graph.specs.Reach.{Names, its_layout, its_map, words_of}
use Rattle.graph.specs.Step.{object_kind, figure_of}
use Rattle.graph.specs.Words.{place_of, record_stands, reference, header, header_kind, value_word, object_words, words_at, handle_words}
use Rattle.graph.specs.Sound.{FieldsOf, Formed}
use Rattle.graph.proofs.Piles.{total-le}
use Rattle.graph.proofs.Frame.{size-pos}
use Rattle.graph.proofs.Laws.{references-read, headers-read}
use Rattle.graph.proofs.Rests.{place-fits}
use Rattle.space.specs.Weave.{inside}
use Rattle.graph.specs.Places.{refers, value_at}
use Rattle.space.specs.Pass.{Planned, Slot, Here, Ruled, Quiet, Handles}
use Rattle.graph.specs.Places.{is_object, refers_at, owner, turn_of, rank_of}
use Rattle.space.specs.Layout.{Keeps, head_of, slot_of, new_of, plan}
use Rattle.graph.proofs.Places.{word_in, below-many, owner-in, owned_by, owner_at, turn-bounds, one-turn, ranked-by, record-turn, class-turn}
use Rattle.graph.proofs.Slots.{map_of, rule_of, refers-value, refers_to, refers-not-0, value-at}

inside-word : (n a : ℕ) → a < n → a < 16384 → inside n a ≡ true
inside-word n a h k = grind (arith, nat_tests)

inside-handle : (n a : ℕ) → 16384 ≤ a → a < 16416 → inside n a ≡ true
inside-handle n a h k = grind (arith, nat_tests)

size-two : (o : Object) → 1 < size o
size-two (a_record l cells) = omega arith
size-two (a_layout c n) = omega arith
size-two (a_map r n p) = omega arith

pub kind-four : (o : Object) → header_kind o < 4
kind-four (a_record l cells) = omega arith
kind-four (a_layout c n) = omega arith
kind-four (a_map r n p) = omega arith

-- the side that its kind is on
pub kind-side : (o : Object) → eqb (header_kind o) 0 ≡ is_record o
kind-side (a_record l cells) = refl
kind-side (a_layout c n) = refl
kind-side (a_map r n p) = refl

kind-record : (o : Object) → header_kind o ≡ 0 → is_record o ≡ true
kind-record (a_record l cells) e = refl
kind-record (a_layout c n) e = absurd (omega (arith, e))
kind-record (a_map r n p) e = absurd (omega (arith, e))

marks : (k : Bool) (kind words : ℕ) → header k kind words % 4 ≡ cond k 3 1
marks true kind words = omega arith
marks false kind words = omega arith

pub high-reference : (W : ℕ) (g : Graph) (s : List Bool) (t : ℕ) → refers (reference W g s t) ≡ true
high-reference W g s t =
    let r = (references-read W g s t).tag in
    elim (cases_Bool (is_record (object_at g t)))
    [ inl e ↦ le-leb _ _ (omega (arith, r, cond-true {A = ℕ} (is_record (object_at g t)) 2 3 e)) | inr e ↦ le-leb _ _ (omega (arith, r, cond-false {A = ℕ} (is_record (object_at g t)) 2 3 e)) ]

module _ (m : Meaning) (W : ℕ) (g : Graph) (s k : List Bool) (kp : Keeps m W g s k) (rest : List ℕ) where
  fits : words_of g s ≤ W
  fits = kp.sound.fits

  long : length s ≡ length g.objects
  long = kp.sound.as_long

  pub ends : (q : ℕ) → get_or s q false ≡ true → place_of W g s q + size (object_at g q) ≤ W
  ends q e = place-fits W g s q fits (below-many W g s fits long q e) e

  -- words

  pub word_at : (q i : ℕ) → get_or s q false ≡ true → i < size (object_at g q) → (plan W g s k rest).words (place_of W g s q + i) ≡ get_or (words_at W g s k q) i 0
  word_at q i e l =
      let b = ends q e in
      let lim = kp.limit in
      cond-true _ _ _ (lt-ltb (place_of W g s q + i) 16384 (omega arith))
      ∙ word_in W g s fits long k rest q i e l

  pub head-word : (q : ℕ) → get_or s q false ≡ true → (plan W g s k rest).words (place_of W g s q) ≡ header (get_or k q false) (header_kind (object_at g q)) (size (object_at g q))
  head-word q e = ap (plan W g s k rest).words (sym (add-zero (place_of W g s q))) ∙ word_at q 0 e (size-pos (object_at g q))

  pub handle-at : (h : ℕ) → h < 32 → (plan W g s k rest).words (16384 + h) ≡ value_word (reference W g s) (held g h)
  handle-at h l =
      let e : 16384 + h - 16384 ≡ h = omega arith in
      cond-false _ _ _ (le-ltb (16384 + h) 16384 (omega arith))
      ∙ cond-true _ _ _ (lt-ltb (16384 + h) 16416 (omega arith))
      ∙ ap (λ (i : ℕ). get_or (handle_words W g s) i 0) e
      ∙ get_or-map (value_word (reference W g s)) g.handles h empty 0 (omega (arith, kp.sound.handles_32))

  -- owners

  pub owner-place : (q : ℕ) → get_or s q false ≡ true → owner W g s (length g.objects) (place_of W g s q) ≡ suc q
  owner-place q e = ap (owner W g s (length g.objects)) (sym (add-zero (place_of W g s q))) ∙ owner_at W g s fits long q 0 e (size-pos (object_at g q))

  pub owner-past : (a : ℕ) → W ≤ a → owner W g s (length g.objects) a ≡ 0
  owner-past a l = go (owner W g s (length g.objects) a) refl
    where
      go : (o : ℕ) → owner W g s (length g.objects) a ≡ o → o ≡ 0
      go zero e = refl
      go (suc q) e = let i = owned_by W g s fits long (length g.objects) q a e in absurd (omega (arith, i.below, ends q i.stands))

  pub head_at : (q : ℕ) → get_or s q false ≡ true → (plan W g s k rest).head (place_of W g s q) ≡ get_or k q false
  head_at q e = ap (λ o. head_of W g s k o (place_of W g s q)) (owner-place q e) ∙ go (get_or k q false) (eqb (place_of W g s q) (place_of W g s q)) (eq-eqb (place_of W g s q) (place_of W g s q) refl)
    where
      go : (x y : Bool) → y ≡ true → (x && y) ≡ x
      go true y e = e
      go false y e = refl

  pub new-at : (q : ℕ) → get_or s q false ≡ true → (plan W g s k rest).new (place_of W g s q) ≡ place_of W g k q
  new-at q e = ap (new_of W g s k) (owner-place q e)

  pub rank-at : (q i : ℕ) → get_or s q false ≡ true → i < size (object_at g q) → (plan W g s k rest).rank (place_of W g s q + i) ≡ turn_of W g s q
  rank-at q i e l = ap (rank_of W g s) (owner_at W g s fits long q i e l)

  pub body_at : (q i : ℕ) → get_or s q false ≡ true → 0 < i → i < size (object_at g q) → (plan W g s k rest).head (place_of W g s q + i) ≡ false
  body_at q i e a l =
      ap (λ o. head_of W g s k o (place_of W g s q + i)) (owner_at W g s fits long q i e l)
      ∙ go (get_or k q false) (eqb (place_of W g s q + i) (place_of W g s q)) (ne_eqb _ _ (λ z. omega (arith, z)))
    where
      go : (x y : Bool) → y ≡ false → (x && y) ≡ false
      go true y e = e
      go false y e = refl

  pub slot_at : (q i : ℕ) → get_or s q false ≡ true → i < size (object_at g q) → (plan W g s k rest).slot (place_of W g s q + i) ≡ (get_or k q false && refers_at (object_at g q) i)
  slot_at q i e l =
      let z : place_of W g s q + i - place_of W g s q ≡ i = omega arith in
      ap (λ o. slot_of W g s k o (place_of W g s q + i)) (owner_at W g s fits long q i e l) ∙ ap (λ (x : ℕ). get_or k q false && refers_at (object_at g q) x) z

  -- a header of the plan
  pub head-of : (a : ℕ) → (plan W g s k rest).head a ≡ true → (q : ℕ) × (get_or k q false ≡ true) × (get_or s q false ≡ true) × (a ≡ place_of W g s q)
  head-of a h = go (owner W g s (length g.objects) a) refl h
    where
      go : (o : ℕ) → owner W g s (length g.objects) a ≡ o → head_of W g s k o a ≡ true → (q : ℕ) × (get_or k q false ≡ true) × (get_or s q false ≡ true) × (a ≡ place_of W g s q)
      go zero e z = absurd (false≢true z)
      go (suc q) e z = let x = and_parts _ _ z in (q, x.0, kp.stand q x.0, eqb-true _ _ x.1)

  rank-of : (q : ℕ) → get_or s q false ≡ true → (plan W g s k rest).rank (place_of W g s q) ≡ turn_of W g s q
  rank-of q e = ap (rank_of W g s) (owner-place q e)

  -- a slot of the plan: of an object or of a handle
  pub record Body (a : ℕ) : Type 0 where
    pub object : ℕ
    pub word : ℕ
    pub kept : get_or k object false ≡ true
    pub below : word < size (object_at g object)
    pub refer : refers_at (object_at g object) word ≡ true
    pub is : a ≡ place_of W g s object + word

  pub record Root (a : ℕ) : Type 0 where
    pub handle : ℕ
    pub below : handle < 32
    pub refer : is_object (held g handle) ≡ true
    pub is : a ≡ 16384 + handle

  pub slot-of : (a : ℕ) → (plan W g s k rest).slot a ≡ true → Body a ⊎ Root a
  slot-of a h = go (owner W g s (length g.objects) a) refl h
    where
      go : (o : ℕ) → owner W g s (length g.objects) a ≡ o → slot_of W g s k o a ≡ true → Body a ⊎ Root a
      go zero e z =
          let x = and_parts _ _ z in
          let y = and_parts _ _ x.1 in
          let u : 16384 ≤ a = leb-true _ _ x.0 in
          let v : a < 16416 = ltb-true _ _ y.0 in
          inr (record { handle = a - 16384; below = omega arith; refer = y.1; is = omega arith })
      go (suc q) e z =
          let x = and_parts _ _ z in
          let i = owned_by W g s fits long (length g.objects) q a e in
          let f = i.from in
          let b = i.below in
          inl (record { object = q; word = a - place_of W g s q; kept = x.0; below = omega arith; refer = x.1; is = omega arith })

  target-head : (t w : ℕ) → w ≡ reference W g s t → get_or k t false ≡ true → (plan W g s k rest).head (w / 4) ≡ true
  target-head t w e kt =
      ap (λ (x : ℕ). (plan W g s k rest).head (x / 4)) e
      ∙ ap (plan W g s k rest).head (references-read W g s t).place
      ∙ head_at t (kp.stand t kt)
      ∙ kt

  -- what a slot refers to
  pub body-target : (a : ℕ) (b : Body a) → (t : ℕ) × (get_or k t false ≡ true) × ((plan W g s k rest).words a ≡ reference W g s t)
  body-target a b =
      let o = object_at g b.object in
      let r = refers_to o b.word b.refer b.below in
      (r.0, kp.named_kept b.object r.0 b.kept r.1, ap (plan W g s k rest).words b.is ∙ word_at b.object b.word (kp.stand b.object b.kept) b.below ∙ r.2 (reference W g s) (get_or k b.object false))

  pub root-target : (a : ℕ) (b : Root a) → (t : ℕ) × (get_or k t false ≡ true) × ((plan W g s k rest).words a ≡ reference W g s t)
  root-target a b = go (held g b.handle) refl b.refer
    where
      go : (v : Value) → held g b.handle ≡ v → is_object v ≡ true → (t : ℕ) × (get_or k t false ≡ true) × ((plan W g s k rest).words a ≡ reference W g s t)
      go empty e z = absurd (false≢true z)
      go (number n) e z = absurd (false≢true z)
      go (object t) e z = (t, kp.held_kept b.handle t e, ap (plan W g s k rest).words b.is ∙ handle-at b.handle b.below ∙ ap (value_word (reference W g s)) e)

  slot-fine : (a : ℕ) → (plan W g s k rest).slot a ≡ true → Slot (plan W g s k rest) a
  slot-fine a h =
      elim (slot-of a h) [
        | inl b ↦
            let t = body-target a b in
            let e = kp.stand b.object b.kept in
            let x = ends b.object e in
            let y = b.below in
            let is = b.is in
            let lim = kp.limit in
            let ne : b.word ≡ 0 → ⊥ = λ z. both_ways (refers_at (object_at g b.object) b.word) (ap (refers_at (object_at g b.object)) z ∙ refers-not-0 (reference W g s) (high-reference W g s) (object_at g b.object)) b.refer in
            record {
              body = ap (plan W g s k rest).head b.is ∙ body_at b.object b.word e (omega arith) b.below;
              within = inside-word (W + length rest) a (omega arith) (omega arith);
              target = target-head t.0 _ t.2 t.1;
            }
        | inr b ↦
            let t = root-target a b in
            let is = b.is in
            let y = b.below in
            let lim = kp.limit in
            record {
              body = ap (λ o. head_of W g s k o a) (owner-past a (omega arith));
              within = inside-handle (W + length rest) a (omega arith) (omega arith);
              target = target-head t.0 _ t.2 t.1;
            }
      ]

  rank_most : (a : ℕ) → (plan W g s k rest).rank a ≤ (plan W g s k rest).count
  rank_most a = go (owner W g s (length g.objects) a) refl
    where
      go : (o : ℕ) → owner W g s (length g.objects) a ≡ o → rank_of W g s o ≤ (plan W g s k rest).count
      go zero e = omega arith
      go (suc q) e = (turn-bounds W g s fits long q (owned_by W g s fits long (length g.objects) q a e).stands).1

  pub planned : Planned (plan W g s k rest)
  planned =
      record {
        counted = λ p h. let x = head-of p h in (
          rw (ap (plan W g s k rest).rank x.3 ∙ rank-of x.0 x.2) (turn-bounds W g s fits long x.0 x.2).0,
          rank_most p,
        );
        single = λ p q h i e.
            let x = head-of p h in
            let y = head-of q i in
            let z : x.0 ≡ y.0 = one-turn W g s fits long x.0 y.0 x.2 y.2
            (sym (rank-of x.0 x.2) ∙ ap (plan W g s k rest).rank (sym x.3) ∙ e ∙ ap (plan W g s k rest).rank y.3 ∙ rank-of y.0 y.2) in
            x.3 ∙ ap (place_of W g s) z ∙ sym y.3;
        odd = λ p h.
            let x = head-of p h in
            ap (λ (w : ℕ). w % 2) (ap (plan W g s k rest).words x.3 ∙ head-word x.0 x.2)
            ∙ (headers-read (get_or k x.0 false) (header_kind (object_at g x.0)) (size (object_at g x.0)) (kind-four (object_at g x.0))).odd;
        within = λ p h.
            let x = head-of p h in
            let e = ends x.0 x.2 in
            let z = size-pos (object_at g x.0) in
            let lim = kp.limit in
            let is = x.3 in
            inside-word (W + length rest) p (omega arith) (omega arith);
        low = λ p h.
            let x = head-of p h in
            let e = ends x.0 x.2 in
            let z = size-pos (object_at g x.0) in
            let lim = kp.limit in
            let is = x.3 in
            omega arith;
        slots = slot-fine;
        ranked = λ a h. rank_most a;
      }

  pub plan-handles : Handles (plan W g s k rest)
  plan-handles =
      record {
        region = λ i a l. (
          ap (rank_of W g s) (owner-past (16384 + i) (omega (arith, kp.limit))),
          ap (λ o. head_of W g s k o (16384 + i)) (owner-past (16384 + i) (omega (arith, kp.limit))),
          ap (λ o. slot_of W g s k o (16384 + i)) (owner-past (16384 + i) (omega (arith, kp.limit)))
              ∙ ap₂ (λ (x y : Bool). x && (y && is_object (held g (16384 + i - 16384)))) (le-leb 16384 (16384 + i) (omega arith)) (lt-ltb (16384 + i) 16416 (omega arith))
              ∙ ap (λ (h : ℕ). is_object (held g h)) (back i)
              ∙ sym (refers-value (reference W g s) (high-reference W g s) (held g i) (λ n e. kp.sound.held_numbers i n e))
              ∙ ap refers (sym (handle-at i l)),
        );
        only = λ a l e. go a l (owner W g s (length g.objects) a) refl e;
      }
    where
      back : (i : ℕ) → 16384 + i - 16384 ≡ i
      back i = omega arith

      go : (a : ℕ) → a < 16384 → (o : ℕ) → owner W g s (length g.objects) a ≡ o → rank_of W g s o ≡ 0 → slot_of W g s k o a ≡ false
      go a l zero e z = and_left _ _ (low a l)
        where
          low : (a : ℕ) → a < 16384 → leb 16384 a ≡ false
          low a l = grind (arith, nat_tests)
      go a l (suc q) e z = absurd (omega (arith, z, (turn-bounds W g s fits long q (owned_by W g s fits long (length g.objects) q a e).stands).0))

  -- a standing object in the plan

  pub kind-is : (q : ℕ) → get_or s q false ≡ true → (plan W g s k rest).words (place_of W g s q) / 4 % 4 ≡ header_kind (object_at g q)
  kind-is q e = ap (λ (w : ℕ). w / 4 % 4) (head-word q e) ∙ (headers-read (get_or k q false) (header_kind (object_at g q)) (size (object_at g q)) (kind-four (object_at g q))).kinds

  class-later : (q t i : ℕ) → get_or s q false ≡ true → is_record (object_at g q) ≡ true → is_record (object_at g t) ≡ false → turn_of W g s q ≡ i + 1 → i < turn_of W g s t
  class-later q t i e r c z =
      let N = length g.objects in
      let b = total-le (λ q. cond (record_stands g s q) 1 0) (suc q) N (below-many W g s fits long q e) in
      omega (arith, z, record-turn W g s fits long q r, class-turn W g s fits long t c)

  quiet : (q t w i : ℕ) → get_or s q false ≡ true → is_record (object_at g q) ≡ true → get_or s t false ≡ true → is_record (object_at g t) ≡ false → 0 < w → w < size (object_at g t) → turn_of W g s q ≡ i + 1 → Quiet (plan W g s k rest) i (place_of W g s t + w)
  quiet q t w i e r d c a l z = record { body = body_at t w d a l; turn = rw (rank-at t w d l) (class-later q t i e r c z) }

  ruled : (q i : ℕ) → get_or k q false ≡ true → is_record (object_at g q) ≡ true → turn_of W g s q ≡ i + 1 → Ruled (plan W g s k rest) i (place_of W g s q) (rule_of g (object_at g q))
  ruled q i kq r z = go (object_at g q) refl
    where
      e : get_or s q false ≡ true
      e = kp.stand q kq

      names_stand : (p t : ℕ) → get_or k p false ≡ true → Names (object_at g p) t → get_or k t false ≡ true
      names_stand = kp.named_kept

      formed : (t : ℕ) → get_or s t false ≡ true → Formed m g (object_at g t)
      formed t d = kp.sound.formed t (below-many W g s fits long t d)

      go : (o : Object) → object_at g q ≡ o → Ruled (plan W g s k rest) i (place_of W g s q) (rule_of g o)
      go (a_layout c n) f = absurd (false≢true (ap is_record (sym f) ∙ r))
      go (a_map x n p) f = absurd (false≢true (ap is_record (sym f) ∙ r))
      go (a_record l cells) f = to-layout (object_at g l) refl
        where
          kl : get_or k l false ≡ true
          kl = names_stand q l kq (subst (λ (o : Object). Names o l) (sym f) its_layout)

          fields : FieldsOf m g (object_at g l) cells
          fields = subst (λ (o : Object). Formed m g o) f (formed q e)

          word1 : (plan W g s k rest).words (place_of W g s q + 1) / 4 ≡ place_of W g s l
          word1 =
              ap (λ (w : ℕ). w / 4)
              (word_at q 1 e (size-two (object_at g q)) ∙ ap (λ (o : Object). get_or (object_words (reference W g s) (get_or k q false) o) 1 0) f)
              ∙ (references-read W g s l).place

          to-layout : (ol : Object) → object_at g l ≡ ol → Ruled (plan W g s k rest) i (place_of W g s q) (figure_of (object_at g (map_of (object_at g l))))
          to-layout (a_record x xs) fl = absurd (subst (λ (o : Object). FieldsOf m g o cells) fl fields)
          to-layout (a_map x n p) fl = absurd (subst (λ (o : Object). FieldsOf m g o cells) fl fields)
          to-layout (a_layout c n) fl = to_map (object_at g n) refl
            where
              dl : get_or s l false ≡ true
              dl = kp.stand l kl

              kn : get_or k n false ≡ true
              kn = names_stand l n kl (subst (λ (o : Object). Names o n) (sym fl) its_map)

              dn : get_or s n false ≡ true
              dn = kp.stand n kn

              two : 2 < size (object_at g l)
              two = subst (λ (o : Object). 2 < size o) (sym fl) (omega arith)

              word2 : (plan W g s k rest).words ((plan W g s k rest).words (place_of W g s q + 1) / 4 + 2) / 4 ≡ place_of W g s n
              word2 =
                  ap (λ (w : ℕ). (plan W g s k rest).words (w + 2) / 4) word1
                  ∙ ap (λ (w : ℕ). w / 4) (word_at l 2 dl two ∙ ap (λ (o : Object). get_or (object_words (reference W g s) (get_or k l false) o) 2 0) fl)
                  ∙ (references-read W g s n).place

              kind4 : object_kind (object_at g n) ≡ 4
              kind4 = (subst (λ (o : Object). Formed m g o) fl (formed l dl)).1

              cl : is_record (object_at g l) ≡ false
              cl = ap is_record fl

              to_map : (om : Object) → object_at g n ≡ om → Ruled (plan W g s k rest) i (place_of W g s q) (figure_of (object_at g (map_of (object_at g l))))
              to_map (a_record x xs) fm = absurd (omega (arith, ap object_kind (sym fm) ∙ kind4))
              to_map (a_layout x y) fm = absurd (omega (arith, ap object_kind (sym fm) ∙ kind4))
              to_map (a_map x y p) fm =
                  let one : 1 < size (object_at g n) = size-two (object_at g n) in
                  record {
                    own = record { body = body_at q 1 e (omega arith) (size-two (object_at g q)); turn = rw (rank-at q 1 e (size-two (object_at g q))) (omega (arith, z)) };
                    layout = rw word1 (quiet q l 2 i e r dl cl (omega arith) two z);
                    map = rw word2 (quiet q n 1 i e r dn (ap is_record fm) (omega arith) one z);
                    low = (omega (arith, ends q e, size-two (object_at g q), kp.limit), omega (arith, word1, ends l dl, two, kp.limit), omega (arith, word2, ends n dn, one, kp.limit));
                    is =
                        ap (λ (w : ℕ). (plan W g s k rest).words (w + 1)) word2
                        ∙ word_at n 1 dn one
                        ∙ ap (λ (o : Object). get_or (object_words (reference W g s) (get_or k n false) o) 1 0) fm
                        ∙ ap figure_of (sym fm)
                        ∙ ap (λ (o : Object). figure_of (object_at g (map_of o))) (sym fl);
                  }

  -- no object takes more than 34 words
  size-most : (q : ℕ) → get_or s q false ≡ true → size (object_at g q) ≤ 34
  size-most q e = go (object_at g q) refl (formed q e)
    where
      formed : (t : ℕ) → get_or s t false ≡ true → Formed m g (object_at g t)
      formed t d = kp.sound.formed t (below-many W g s fits long t d)

      of-record : (l : ℕ) (cells : List Cell) (o : Object) → Formed m g o → FieldsOf m g o cells → 2 + length cells ≤ 34
      of-record l cells (a_record x xs) f h = absurd h
      of-record l cells (a_layout c n) f h = omega (arith, f.0, h.0)
      of-record l cells (a_map x n p) f h = absurd h

      go : (o : Object) → object_at g q ≡ o → Formed m g o → size o ≤ 34
      go (a_layout c n) x f = omega arith
      go (a_map r n p) x f = omega arith
      go (a_record l cells) x f =
          of-record l cells (object_at g l) (kp.sound.formed l (kp.sound.within q l (subst (λ (o : Object). Names o l) (sym x) its_layout))) f

  pub here-at : (q i : ℕ) → get_or s q false ≡ true → turn_of W g s q ≡ i + 1 → Here m (plan W g s k rest) (get_or k q false) (size (object_at g q)) (place_of W g k q) (place_of W g s q) i
  here-at q i e z =
      record {
        some = size-two (object_at g q);
        most = size-most q e;
        owns = λ a x y. ap (rank_of W g s) (owner-in W g s fits long (length g.objects) q a (below-many W g s fits long q e) (record { stands = e; from = x; below = y })) ∙ z;
        owned = λ a x.
            let y = ranked-by W g s fits long (length g.objects) a (i + 1) x (omega arith) in
            let f : y.0 ≡ q = one-turn W g s fits long y.0 q y.1.stands e (y.2 ∙ sym z) in
            (subst (λ (p : ℕ). place_of W g s p ≤ a) f y.1.from, subst (λ (p : ℕ). a < place_of W g s p + size (object_at g p)) f y.1.below);
        big = ap (λ (w : ℕ). w / 16) (head-word q e) ∙ (headers-read (get_or k q false) (header_kind (object_at g q)) (size (object_at g q)) (kind-four (object_at g q))).sizes;
        mark = ap (λ (w : ℕ). w % 4) (head-word q e) ∙ marks (get_or k q false) (header_kind (object_at g q)) (size (object_at g q));
        head = head_at q e;
        plain = ap (plan W g s k rest).slot (sym (add-zero (place_of W g s q))) ∙ slot_at q 0 e (size-pos (object_at g q)) ∙ none (get_or k q false) (refers_at (object_at g q) 0) (refers-not-0 (reference W g s) (high-reference W g s) (object_at g q));
        rule = rule_of g (object_at g q);
        ruled = λ kq f. ruled q i kq (kind-record (object_at g q) (sym (kind-is q e) ∙ f)) z;
        body = λ j a l. (
          body_at q j e a l,
          slot_at q j e l
              ∙ keep (get_or k q false) (refers_at (object_at g q) j) _
              (value-at (reference W g s) (high-reference W g s) m g (get_or k q false) (object_at g q) (kp.sound.formed q (below-many W g s fits long q e)) (λ n c. kp.sound.numbers q n c) j a l
              ∙ ap₂ (λ (x y : ℕ). value_at m x (rule_of g (object_at g q)) j && refers y) (sym (kind-is q e)) (sym (word_at q j e l))),
        );
        new = λ kq. new-at q e;
      }
    where
      none : (x y : Bool) → y ≡ false → (x && y) ≡ false
      none true y f = f
      none false y f = refl

      keep : (x y z : Bool) → y ≡ z → (x && y) ≡ cond x z false
      keep true y z f = f
      keep false y z f = refl
