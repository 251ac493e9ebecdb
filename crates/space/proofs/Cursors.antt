-- A cursor on its way over a side, and the new place that goes with it.
use Rattle.std.proofs.Common.{◌≡◌, ℕ, zero, suc, ◌+◌, ◌-◌, ◌<◌, ◌≤◌, Bool, true, false, sym, refl, ap, ◌∙◌, subst, inl, inr, arith}
use Rattle.std.proofs.lemmas.Bool.{cases_eq, ltb-true, ltb-false, leb-true, false≢true}
use Rattle.scheme.specs.Meaning.{Meaning}
use Rattle.space.specs.Pass.{Plan, Step, Course, place_by, next_by, before, Bounded, gap_by, slides_by}
use Rattle.space.specs.Met.{Among, Goes, Leads}

no_way : (b : Bool) (c end size : ℕ) → before b c end ≡ false → 1 < size → size ≤ gap_by b c end → ⊥
no_way true c end size h i j = let l : end ≤ c = ltb-false c end h in omega arith
no_way false c end size h i j = let l : c ≤ end = ltb-false end c h in omega arith

-- on its way to the end a cursor is not there
pub apart : (b : Bool) (c end : ℕ) → before b c end ≡ true → c ≡ end → ⊥
apart true c end h e = let l : c < end = ltb-true c end h in omega arith
apart false c end h e = let l : end < c = ltb-true end c h in omega arith

-- and the word by which it reads a size is within the walk's bound
pub among_by : (b : Bool) (limit c end : ℕ) → Bounded b limit c end → before b c end ≡ true → Among b limit c
among_by true limit c end l h = record { upward = λ z. omega (arith, ltb-true c end h, l); downward = λ z. absurd (false≢true (sym z)) }
among_by false limit c end l h = record { upward = λ z. absurd (false≢true z); downward = λ z. (omega (arith, ltb-true end c h), l) }

-- the bound stays
pub bounded_next : (b : Bool) (limit c c' end size : ℕ) → Bounded b limit c end → c' ≡ next_by b c size → Bounded b limit c' end
bounded_next true limit c c' end size l e = l
bounded_next false limit c c' end size l e = omega (arith, l)

-- a size that leads on leads nearer to the end
pub closer : (b : Bool) (c c' end size : ℕ) → before b c end ≡ true → Leads b c size → c' ≡ next_by b c size → gap_by b c' end < gap_by b c end
closer true c c' end size h l e = omega (arith, ltb-true c end h, l.some)
closer false c c' end size h l e = omega (arith, ltb-true end c h, l.some, l.goes.downward refl)

-- the new cursor is behind the old one, within the walk's bound
pub record Behind (b : Bool) (limit c q : ℕ) : Type 0 where
  pub upward : b ≡ true → q ≤ c
  pub downward : b ≡ false → (c ≤ q) × (q ≤ limit)

pub behind_start : (b : Bool) (limit c end : ℕ) → Bounded b limit c end → Behind b limit c c
behind_start b limit c end l = record { upward = λ z. omega arith; downward = λ z. (omega arith, subst (λ (x : Bool). Bounded x limit c end) z l) }

pub behind_on : (b : Bool) (limit c c' q size : ℕ) → Behind b limit c q → Leads b c size → c' ≡ next_by b c size → Behind b limit c' q
behind_on true limit c c' q size h l e = record { upward = λ z. omega (arith, h.upward refl); downward = λ z. absurd (false≢true (sym z)) }
behind_on false limit c c' q size h l e = record { upward = λ z. absurd (false≢true z); downward = λ z. (omega (arith, (h.downward refl).0), (h.downward refl).1) }

pub behind_goes : (b : Bool) (limit c q size : ℕ) → Behind b limit c q → Leads b c size → Goes b q size
behind_goes true limit c q size h l = record { upward = λ z. omega (arith, h.upward refl, l.goes.upward refl); downward = λ z. absurd (false≢true (sym z)) }
behind_goes false limit c q size h l = record { upward = λ z. absurd (false≢true z); downward = λ z. omega (arith, (h.downward refl).0, l.goes.downward refl) }

-- also when it goes on with it
pub behind_both : (b : Bool) (limit c c' q q' size : ℕ) → Behind b limit c q → c' ≡ next_by b c size → q' ≡ next_by b q size → Behind b limit c' q'
behind_both true limit c c' q q' size h e f = record { upward = λ z. omega (arith, h.upward refl); downward = λ z. absurd (false≢true (sym z)) }
behind_both false limit c c' q q' size h e f = record { upward = λ z. absurd (false≢true z); downward = λ z. (omega (arith, (h.downward refl).0), omega (arith, (h.downward refl).1)) }

-- so the new place is there, and its object fits where the old one did
pub behind_place : (b : Bool) (limit c q p r size : ℕ) → Behind b limit c q → Among b limit c → Leads b c size → p ≡ place_by b c size → r ≡ place_by b q size → (r < limit) × (p + size ≤ limit → r + size ≤ limit)
behind_place true limit c q p r size h a l e f = (omega (arith, h.upward refl, a.upward refl), λ z. omega (arith, h.upward refl))
behind_place false limit c q p r size h a l e f =
    let d = h.downward refl in
    let g = l.goes.downward refl in
    let some = l.some in (omega (arith, d.0, d.1, g, some), λ z. omega (arith, d.0, d.1, g))

leads_by : (b : Bool) (c end size : ℕ) → 1 < size → size ≤ gap_by b c end → place_by b c size + size ≤ 16384 → Leads b c size
leads_by true c end size h i j = record { some = omega arith; goes = record { upward = λ z. omega arith; downward = λ z. absurd (false≢true (sym z)) } }
leads_by false c end size h i j = record { some = omega arith; goes = record { upward = λ z. absurd (false≢true z); downward = λ z. omega arith } }

goes_by : (b : Bool) (c q end size : ℕ) → size ≤ gap_by b c end → place_by b q size + size ≤ 16384 → slides_by b c q ≡ true → Goes b q size
goes_by true c q end size h i j = record { upward = λ z. omega arith; downward = λ z. absurd (false≢true (sym z)) }
goes_by false c q end size h i j = record { upward = λ z. absurd (false≢true z); downward = λ z. omega (arith, leb-true c q j) }

pub still : (b : Bool) (q : ℕ) → next_by b q 0 ≡ q
still true q = omega arith
still false q = omega arith

module _ {m : Meaning} {P : Plan} {up : Bool} (C : Course m P up) where
  -- the next standing object from the position j on
  record Found (j : ℕ) : Type 0 where
    pub at : ℕ
    pub below : at < C.many
    pub here : C.stands at ≡ true
    pub old : C.old at ≡ C.old j
    pub new : C.new at ≡ C.new j
    pub num : C.num at ≡ C.num j
    pub from : j ≤ at
    pub none : (i : ℕ) → j ≤ i → i < at → C.stands i ≡ false

  find : (n j : ℕ) → n + j ≡ C.many → (C.old j ≡ C.old C.many → ⊥) → Found j
  find zero j e ne = absurd (ne (ap C.old (omega (arith, e))))
  find (suc n) j e ne = go (C.stands j) refl (λ (z : C.old (suc j) ≡ C.old j). find n (suc j) (omega (arith, e)) (λ x. ne (sym z ∙ x)))
    where
      go : (b : Bool) → C.stands j ≡ b → (C.old (suc j) ≡ C.old j → Found (suc j)) → Found j
      go true f r = record { at = j; below = omega (arith, e); here = f; old = refl; new = refl; num = refl; from = omega arith; none = λ i l h. absurd (omega arith) }
      go false f r =
          let s = C.skip j (omega (arith, e)) f in
          let x = r s.0 in
          record { at = x.at; below = x.below; here = x.here; old = x.old ∙ s.0; new = x.new ∙ s.1; num = x.num ∙ s.2; from = omega (arith, x.from); none = λ i l h. elim (cases_eq i j) [ inl z ↦ ap C.stands z ∙ f | inr ne ↦ x.none i (omega arith) h ] }

  found : (j : ℕ) → j ≤ C.many → (C.old j ≡ C.old C.many → ⊥) → Found j
  found j l ne = find (C.many - j) j (omega arith) ne

  -- and where nothing is left
  rest-same : (n j : ℕ) → n + j ≡ C.many → C.old j ≡ C.old C.many → (C.new j ≡ C.new C.many) × (C.num j ≡ C.num C.many) × ((i : ℕ) → j ≤ i → i < C.many → C.stands i ≡ false)
  rest-same zero j e f = let z : j ≡ C.many = omega (arith, e) in (ap C.new z, ap C.num z, λ i l h. absurd (omega arith))
  rest-same (suc n) j e f = go (C.stands j) refl (λ (z : C.old (suc j) ≡ C.old C.many). rest-same n (suc j) (omega (arith, e)) z)
    where
      moves : (b : Bool) (c d size end : ℕ) → d ≡ next_by b c size → size ≤ gap_by b c end → 1 < size → c ≡ end → ⊥
      moves true c d size end x y z w = omega arith
      moves false c d size end x y z w = omega arith

      go : (b : Bool) → C.stands j ≡ b → (C.old (suc j) ≡ C.old C.many → (C.new (suc j) ≡ C.new C.many) × (C.num (suc j) ≡ C.num C.many) × ((i : ℕ) → suc j ≤ i → i < C.many → C.stands i ≡ false)) → (C.new j ≡ C.new C.many) × (C.num j ≡ C.num C.many) × ((i : ℕ) → j ≤ i → i < C.many → C.stands i ≡ false)
      go true g r = let s = C.step j (omega (arith, e)) g in absurd (moves up (C.old j) (C.old (suc j)) (C.size j) (C.old C.many) s.old s.room s.here.some f)
      go false g r =
          let s = C.skip j (omega (arith, e)) g in
          let x = r (s.0 ∙ f) in
          (sym s.1 ∙ x.0, sym s.2 ∙ x.1, λ i l h. elim (cases_eq i j) [ inl z ↦ ap C.stands z ∙ g | inr ne ↦ x.2 i (omega arith) h ])

  all_done : (j : ℕ) → j ≤ C.many → C.old j ≡ C.old C.many → (C.new j ≡ C.new C.many) × (C.num j ≡ C.num C.many) × ((i : ℕ) → j ≤ i → i < C.many → C.stands i ≡ false)
  all_done j l e = rest-same (C.many - j) j (omega arith) e

  -- the cursor is at c, and the kept objects behind it go up to q
  pub record Cursor (q c : ℕ) : Type 0 where
    pub at : ℕ
    pub within : at ≤ C.many
    pub is : c ≡ C.old at
    pub to : q ≡ C.new at

  abbrev pub cursor-start : (from to : ℕ) → from ≡ C.old 0 → to ≡ C.new 0 → Cursor to from
  cursor-start from to e f = record { at = 0; within = omega arith; is = e; to = f }

  -- all objects are behind it
  pub record Past (q c : ℕ) (k : Cursor q c) : Type 0 where
    pub old : C.old C.many ≡ C.old k.at
    pub new : q ≡ C.new C.many
    pub num : C.num k.at ≡ C.num C.many
    pub none : (i : ℕ) → k.at ≤ i → i < C.many → C.stands i ≡ false

  pub cursor-end : (q c end : ℕ) → end ≡ C.old C.many → (k : Cursor q c) → before up c end ≡ false → Past q c k
  cursor-end q c end f k h = elim (cases_eq c end) [
    | inl e ↦
        let x = all_done k.at k.within (sym k.is ∙ e ∙ f) in
        record { old = sym (sym k.is ∙ e ∙ f); new = k.to ∙ x.0; num = x.1; none = x.2 }
    | inr ne ↦
        let x = found k.at k.within (λ z. ne (k.is ∙ z ∙ sym f)) in
        let st = C.step x.at x.below x.here in
        let room : C.size x.at ≤ gap_by up c end = subst (λ z. C.size x.at ≤ gap_by up c z) (sym f) (subst (λ z. C.size x.at ≤ gap_by up z (C.old C.many)) (x.old ∙ sym k.is) st.room) in
        absurd (no_way up c end (C.size x.at) h st.here.some room)
  ]

  module _ (q c end : ℕ) (f : end ≡ C.old C.many) (k : Cursor q c) (ne : c ≡ end → ⊥) where
    -- the object that the cursor has come to
    pub record Next : Type 0 where
      pub at : ℕ
      pub below : at < C.many
      pub here : C.stands at ≡ true
      pub old : C.old at ≡ c
      pub new : C.new at ≡ q
      pub num : C.num at ≡ C.num k.at
      pub same : C.old at ≡ C.old k.at
      pub none : (i : ℕ) → k.at ≤ i → i < at → C.stands i ≡ false
      pub step : Step m P up (C.kept at) (C.size at) c (C.old (suc at)) q (C.new (suc at)) (C.num at) (C.num (suc at)) end

    pub next : Next
    next =
        let x = found k.at k.within (λ z. ne (k.is ∙ z ∙ sym f)) in
        let a : C.old x.at ≡ c = x.old ∙ sym k.is in
        let b : C.new x.at ≡ q = x.new ∙ sym k.to in
        record {
          at = x.at;
          below = x.below;
          here = x.here;
          old = a;
          new = b;
          num = x.num;
          same = x.old;
          none = x.none;
          step =
              subst (λ z. Step m P up (C.kept x.at) (C.size x.at) c (C.old (suc x.at)) q (C.new (suc x.at)) (C.num x.at) (C.num (suc x.at)) z) (sym f)
              (subst (λ z. Step m P up (C.kept x.at) (C.size x.at) c (C.old (suc x.at)) z (C.new (suc x.at)) (C.num x.at) (C.num (suc x.at)) (C.old C.many)) b
              (subst (λ z. Step m P up (C.kept x.at) (C.size x.at) z (C.old (suc x.at)) (C.new x.at) (C.new (suc x.at)) (C.num x.at) (C.num (suc x.at)) (C.old C.many)) a (C.step x.at x.below x.here)));
        }

    module _ (size : ℕ) (sz : size ≡ C.size next.at) where
      -- its step, in the words of the code
      pub stepped : Step m P up (C.kept next.at) size c (C.old (suc next.at)) q (C.new (suc next.at)) (C.num next.at) (C.num (suc next.at)) end
      stepped = subst (λ z. Step m P up (C.kept next.at) z c (C.old (suc next.at)) q (C.new (suc next.at)) (C.num next.at) (C.num (suc next.at)) end) (sym sz) next.step

      -- it leads the cursor on, and the new one with it
      pub leads : Leads up c size
      leads = leads_by up c end size stepped.here.some stepped.room stepped.low.0

      pub goes : Goes up q size
      goes = goes_by up c q end size stepped.room stepped.to.0 stepped.slide

      -- the cursor behind it
      abbrev pub advance : (c' q' : ℕ) → c' ≡ next_by up c size → q' ≡ C.new (suc next.at) → Cursor q' c'
      advance c' q' ec eq = record { at = suc next.at; within = next.below; is = ec ∙ sym stepped.old; to = eq }
