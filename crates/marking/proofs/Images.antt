-- The words at rest, with any marks, as words of the plan that keeps all that stands.
use Rattle.std.proofs.Common.{◌≡◌, ℕ, zero, suc, ◌+◌, ◌-◌, ◌%◌, ◌<◌, ◌≤◌, Bool, true, false, not, ◌&&◌, eqb, ◌⊎◌, List, ◌++◌, length, get_or, sym, refl, ap, ◌∙◌, subst, ap₂, inl, inr, add-zero, arith, length-append}
use Rattle.std.proofs.lemmas.Bool.{both_ways, false≢true, cases_Bool, and_parts, and_from, and_left, cond-true, ne_eqb, eq-eqb, cases_lt, cases_eq}
use Rattle.std.proofs.lemmas.List.{ext_get_or, length-map}
use Rattle.scheme.specs.Meaning.{Meaning}
use Rattle.graph.specs.Graph.{Object, Graph, object_at, size}
use Rattle.graph.specs.Reach.{total}
use Rattle.graph.specs.Words.{place_of, record_stands, class_stands, record_size, class_size, reference, header, header_kind, value_word, object_words, image, handle_words, low_end, high_end}
use Rattle.graph.specs.Sound.{Sound}
use Rattle.graph.proofs.Piles.{total-le}
use Rattle.graph.proofs.Frame.{size-pos, length-image}
use Rattle.space.specs.Weave.{view}
use Rattle.space.specs.Pass.{Plan}
use Rattle.graph.specs.Places.{owner}
use Rattle.space.specs.Layout.{Keeps, plan}
use Rattle.graph.proofs.Places.{word_in, cover, covered, zero-at, rest_at, below-many, owner-in, owned_by, record-place, class-place}
use Rattle.space.proofs.Plans.{ends, head-word, head-of, head_at}
use Rattle.space.proofs.Courses.{sides-fit}
use Rattle.marking.specs.Marks.{Marked, marked}
use Rattle.space.proofs.Stores.{view-low, view-high, view-handle}
use Rattle.space.proofs.Standings.{keeps-all, standing}
use Rattle.marking.proofs.Steps.{plain, full, lacks as unmarked-lacks}

-- a word behind the header has no mark
behind : (ref : ℕ → ℕ) (b c : Bool) (o : Object) (i : ℕ) → (i ≡ 0 → ⊥) → get_or (object_words ref b o) i 0 ≡ get_or (object_words ref c o) i 0
behind ref b c o zero ne = absurd (ne refl)
behind ref b c o (suc i) ne = refl

module _ (m : Meaning) (W : ℕ) (g : Graph) (s : List Bool) (snd : Sound m W g s) (lim : W ≤ 16384) (rest : List ℕ) where
  abbrev P : Plan
  P = plan W g s s rest

  abbrev kp : Keeps m W g s s
  kp = keeps-all m W g s snd lim

  -- an address of no object lies between the sides or behind the W words
  unowned : (mk : List Bool) (a : ℕ) → owner W g s (length g.objects) a ≡ 0 → get_or (image W g s mk ++ rest) a 0 ≡ get_or (image W g s s ++ rest) a 0
  unowned mk a e =
      elim (cases_lt a W) [
        | inr l ↦ rest_at W g rest s mk snd.fits a l ∙ sym (rest_at W g rest s s snd.fits a l)
        | inl l ↦
            let N = length g.objects in
            let fit = sides-fit m W g s s kp rest in
            let low : low_end g s ≤ a = elim (cases_lt a (low_end g s)) [ inl b ↦ absurd (no_record b) | inr b ↦ b ] in
            let high : a < high_end W g s = elim (cases_lt a (high_end W g s)) [ inl b ↦ b | inr b ↦ absurd (no-class l b) ] in
            zero-at W g rest s mk snd.fits a low high ∙ sym (zero-at W g rest s s snd.fits a low high)
      ]
    where
      owned : (q : ℕ) → get_or s q false ≡ true → place_of W g s q ≤ a → a < place_of W g s q + size (object_at g q) → ⊥
      owned q st x y =
          omega (arith, sym e ∙ owner-in W g s snd.fits snd.as_long (length g.objects) q a (below-many W g s snd.fits snd.as_long q st) (record { stands = st; from = x; below = y }))

      no_record : a < low_end g s → ⊥
      no_record l =
          let c = cover (record_size g s) (length g.objects) a l in
          let q = c.at in
          let f = covered (record_stands g s q) (size (object_at g q)) (a - total (record_size g s) q) (omega (arith, c.from, c.to)) in
          let y = and_parts _ _ f in
          let sk : record_size g s q ≡ size (object_at g q) = cond-true _ _ _ f in
          let p = record-place W g s snd.fits snd.as_long q y.1 in
          owned q y.0 (omega (arith, p, c.from)) (omega (arith, p, c.to, sk))

      class-side : (b : Bool) → not b ≡ true → b ≡ false
      class-side true f = absurd (false≢true f)
      class-side false f = refl

      no-class : a < W → high_end W g s ≤ a → ⊥
      no-class lw h =
          let c = cover (class_size g s) (length g.objects) (W - 1 - a) (omega (arith, sides-fit m W g s s kp rest)) in
          let q = c.at in
          let f = covered (class_stands g s q) (size (object_at g q)) (W - 1 - a - total (class_size g s) q) (omega (arith, c.from, c.to)) in
          let y = and_parts _ _ f in
          let sk : class_size g s q ≡ size (object_at g q) = cond-true _ _ _ f in
          let p = class-place W g s snd.fits snd.as_long q (class-side _ y.1) in
          let t = total-le (class_size g s) (suc q) (length g.objects) c.below in
          let fit = sides-fit m W g s s kp rest in
          owned q y.0 (omega (arith, p, c.from, c.to, sk)) (omega (arith, p, c.from, c.to, sk))

  -- the words at rest with the marks mk
  module _ (mk : List Bool) where
    abbrev pub look : ℕ → ℕ
    look = view (image W g s mk ++ rest) (handle_words W g s)

    pub header-in : (q : ℕ) → get_or s q false ≡ true → look (place_of W g s q) ≡ header (get_or mk q false) (header_kind (object_at g q)) (size (object_at g q))
    header-in q st =
        view-low (image W g s mk ++ rest) (handle_words W g s) (place_of W g s q) (omega (arith, lim, ends m W g s s kp rest q st, size-pos (object_at g q)))
        ∙ ap (λ (p : ℕ). get_or (image W g s mk ++ rest) p 0) (sym (add-zero (place_of W g s q)))
        ∙ word_in W g s snd.fits snd.as_long mk rest q 0 st (size-pos (object_at g q))

    pub image-marked : Marked P look
    image-marked a =
        elim (cases_lt a 16384) [
          | inr l ↦ inl (view-high (image W g s mk ++ rest) (image W g s s ++ rest) (handle_words W g s) a l)
          | inl l ↦ low l (owner W g s (length g.objects) a) refl
        ]
      where
        at-header : (q : ℕ) → get_or s q false ≡ true → (b : Bool) → get_or mk q false ≡ b → (look (place_of W g s q) ≡ P.words (place_of W g s q)) ⊎ ((P.head (place_of W g s q) ≡ true) × (look (place_of W g s q) + 2 ≡ P.words (place_of W g s q)))
        at-header q st b f =
            let o = object_at g q in
            let w : look (place_of W g s q) ≡ header b (header_kind o) (size o) = header-in q st ∙ ap (λ (x : Bool). header x (header_kind o) (size o)) f in
            let v : P.words (place_of W g s q) ≡ header true (header_kind o) (size o) = head-word m W g s s kp rest q st ∙ ap (λ (x : Bool). header x (header_kind o) (size o)) st in
            go b (head_at m W g s s kp rest q st ∙ st) w v
          where
            go : (b : Bool) → P.head (place_of W g s q) ≡ true → look (place_of W g s q) ≡ header b (header_kind (object_at g q)) (size (object_at g q)) → P.words (place_of W g s q) ≡ header true (header_kind (object_at g q)) (size (object_at g q)) →
                (look (place_of W g s q) ≡ P.words (place_of W g s q)) ⊎ ((P.head (place_of W g s q) ≡ true) × (look (place_of W g s q) + 2 ≡ P.words (place_of W g s q)))
            go true h w v = inl (w ∙ sym v)
            go false h w v = inr (h, omega (arith, w, v))

        low : a < 16384 → (o : ℕ) → owner W g s (length g.objects) a ≡ o → (look a ≡ P.words a) ⊎ ((P.head a ≡ true) × (look a + 2 ≡ P.words a))
        low l zero e = inl (view-low (image W g s mk ++ rest) (handle_words W g s) a l ∙ unowned mk a e ∙ sym (view-low (image W g s s ++ rest) (handle_words W g s) a l))
        low l (suc q) e =
            let x = owned_by W g s snd.fits snd.as_long (length g.objects) q a e in
            let st = x.stands in
            elim (cases_eq a (place_of W g s q)) [
              | inl f ↦ subst (λ (y : ℕ). (look y ≡ P.words y) ⊎ ((P.head y ≡ true) × (look y + 2 ≡ P.words y))) (sym f) (at-header q st (get_or mk q false) refl)
              | inr ne ↦
                  let i = a - place_of W g s q in
                  let at : place_of W g s q + i ≡ a = omega (arith, x.from) in
                  let li : i < size (object_at g q) = omega (arith, x.from, x.below) in
                  inl (
                  view-low (image W g s mk ++ rest) (handle_words W g s) a l
                  ∙ ap (λ (p : ℕ). get_or (image W g s mk ++ rest) p 0) (sym at)
                  ∙ word_in W g s snd.fits snd.as_long mk rest q i st li
                  ∙ behind (reference W g s) (get_or mk q false) (get_or s q false) (object_at g q) i (λ z. ne (omega (arith, z, x.from)))
                  ∙ sym (word_in W g s snd.fits snd.as_long s rest q i st li)
                  ∙ ap (λ (p : ℕ). get_or (image W g s s ++ rest) p 0) at
                  ∙ sym (view-low (image W g s s ++ rest) (handle_words W g s) a l)
                  )
            ]

    pub marks-in : (q : ℕ) → get_or s q false ≡ true → marked P look (place_of W g s q) ≡ get_or mk q false
    marks-in q st = ap₂ (λ (x : Bool) (w : ℕ). x && eqb (w % 4) 3) (head_at m W g s s kp rest q st ∙ st) (header-in q st) ∙ go (get_or mk q false) (header_kind (object_at g q)) (size (object_at g q))
      where
        go : (b : Bool) (k n : ℕ) → eqb (header b k n % 4) 3 ≡ b
        go true k n = eq-eqb (header true k n % 4) 3 (omega arith)
        go false k n = ne_eqb (header false k n % 4) 3 (λ z. omega (arith, z))

  -- words with the same marks are the same
  same-marks : (f h : ℕ → ℕ) → Marked P f → Marked P h → ((a : ℕ) → marked P f a ≡ marked P h a) → (a : ℕ) → f a ≡ h a
  same-marks f h x y e a =
      elim (cases_Bool (P.head a)) [
        | inr nh ↦ plain P f x a nh ∙ sym (plain P h y a nh)
        | inl hd ↦
            elim (cases_Bool (marked P f a)) [
              | inl on ↦ full m P W (standing m W g s snd lim rest) f x a on ∙ sym (full m P W (standing m W g s snd lim rest) h y a (sym (e a) ∙ on))
              | inr off ↦
                  let u = lacks f x a hd off in
                  let v = lacks h y a hd (sym (e a) ∙ off) in
                  omega (arith, u, v)
            ]
      ]
    where
      lacks : (f : ℕ → ℕ) → Marked P f → (a : ℕ) → P.head a ≡ true → marked P f a ≡ false → f a + 2 ≡ P.words a
      lacks f x a hd off = unmarked-lacks m P W (standing m W g s snd lim rest) f x a hd (λ z. both_ways (marked P f a) off (and_from (P.head a) (eqb (f a % 4) 3) hd (eq-eqb (f a % 4) 3 z)))

  -- the words of the heap, from the marks of its objects
  pub marked-image : (mk : List Bool) (vs gs : List ℕ) → Marked P (view vs gs) → ((q : ℕ) → get_or s q false ≡ true → marked P (view vs gs) (place_of W g s q) ≡ get_or mk q false) →
      length vs ≡ W + length rest → length gs ≡ 32 → ((i : ℕ) → 16384 ≤ i → get_or vs i 0 ≡ get_or rest (i - W) 0) →
      (vs ≡ image W g s mk ++ rest) × (gs ≡ handle_words W g s)
  marked-image mk vs gs is marks many roots past = (
    ext_get_or 0 vs (image W g s mk ++ rest) (many ∙ sym (length-append (image W g s mk) rest ∙ ap (λ (n : ℕ). n + length rest) (length-image W g s mk snd.fits)))
        (λ i l. elim (cases_lt i 16384) [
          | inl h ↦ sym (view-low vs gs i h) ∙ same i ∙ view-low (image W g s mk ++ rest) (handle_words W g s) i h
          | inr h ↦ past i h ∙ sym (rest_at W g rest s mk snd.fits i (omega arith))
        ]),
    ext_get_or 0 gs (handle_words W g s) (roots ∙ sym (length-map g.handles (value_word (reference W g s)) ∙ snd.handles_32))
        (λ h l.
        let lh : h < 32 = omega (arith, roots) in
        sym (view-handle vs gs h lh) ∙ same (16384 + h) ∙ view-handle (image W g s mk ++ rest) (handle_words W g s) h lh),
  )
    where
      agree : (a : ℕ) → marked P (view vs gs) a ≡ marked P (look mk) a
      agree a =
          elim (cases_Bool (P.head a)) [
            | inr nh ↦ and_left (P.head a) (eqb (view vs gs a % 4) 3) nh ∙ sym (and_left (P.head a) (eqb (look mk a % 4) 3) nh)
            | inl hd ↦
                let x = head-of m W g s s kp rest a hd in
                subst (λ (p : ℕ). marked P (view vs gs) p ≡ marked P (look mk) p) (sym x.3) (marks x.0 x.2 ∙ sym (marks-in mk x.0 x.2))
          ]

      same : (a : ℕ) → view vs gs a ≡ look mk a
      same = same-marks (view vs gs) (look mk) is (image-marked mk) agree
