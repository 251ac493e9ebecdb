-- Where a round begins on each side: at a position of its walk behind which all its dropped objects lie.
use Rattle.std.proofs.Common.{min, max, ◌≡◌, ℕ, zero, suc, ◌+◌, ◌/◌, ◌<◌, ◌≤◌, Bool, true, false, sym, refl, ◌∙◌, subst, inl, inr, arith}
use Rattle.std.proofs.lemmas.Bool.{both_ways, cases_lt, lt-ltb, le-leb}
use Rattle.scheme.specs.Meaning.{Meaning}
use Rattle.space.specs.Pass.{Plan, Planned, Course, place_by}
use Rattle.space.specs.Standing.{Standing, Sides}
use Rattle.marking.specs.declared.Pending.{Pending}
use Rattle.marking.specs.Marks.{is_record_at, Dropped, RecordsFrom, ClassesFrom}

module _ {m : Meaning} {P : Plan} {up : Bool} (C : Course m P up) where
  -- the object number r has a position
  record Position (r : ℕ) : Type 0 where
    pub at : ℕ
    pub below : at < C.many
    pub here : C.stands at ≡ true
    pub num : r ≡ C.num at + 1

  -- since the numbers go up by one
  position : (n r : ℕ) → n ≤ C.many → C.num 0 < r → r ≤ C.num n → Position r
  position zero r l a b = absurd (omega arith)
  position (suc n) r l a b = elim (cases_lt (C.num n) r) [ inl h ↦ go (C.stands n) refl h | inr h ↦ position n r (omega (arith, l)) a h ]
    where
      go : (t : Bool) → C.stands n ≡ t → C.num n < r → Position r
      go true e h = record { at = n; below = l; here = e; num = omega (arith, (C.step n l e).num, b, h) }
      go false e h = absurd (omega (arith, (C.skip n l e).2, b, h))

  module _ (planned : Planned P) (all : (j : ℕ) → C.stands j ≡ true → C.kept j ≡ true) where
    -- the header at p is that of the object at a position of the side
    record Positioned (p : ℕ) : Type 0 where
      pub at : ℕ
      pub below : at < C.many
      pub here : C.stands at ≡ true
      pub rank : P.rank p ≡ C.num at + 1
      pub place : place_by up (C.old at) (C.size at) ≡ p
      pub kind : is_record_at P p ≡ up

    positioned : (p : ℕ) → P.head p ≡ true → C.num 0 < P.rank p → P.rank p ≤ C.num C.many → Positioned p
    positioned p h a b =
        let x = position C.many (P.rank p) (omega arith) a b in
        let st = C.step x.at x.below x.here in
        let rank : P.rank (place_by up (C.old x.at) (C.size x.at)) ≡ C.num x.at + 1 = st.here.owns _ (omega arith) (omega (arith, st.here.some)) in
        let place : place_by up (C.old x.at) (C.size x.at) ≡ p = planned.single _ p (st.here.head ∙ all x.at x.here) h (rank ∙ sym x.num) in
        record { at = x.at; below = x.below; here = x.here; rank = x.num; place = place; kind = subst (λ (a : ℕ). is_record_at P a ≡ up) place st.kind }

-- a cursor over the classes goes down
falls : {m : Meaning} {P : Plan} (C : Course m P false) (n : ℕ) → n ≤ C.many → C.old n ≤ C.old 0
falls C zero l = omega arith
falls C (suc n) l = go (C.stands n) refl (falls C n (omega (arith, l)))
  where
    go : (t : Bool) → C.stands n ≡ t → C.old n ≤ C.old 0 → C.old (suc n) ≤ C.old 0
    go true e h = omega (arith, (C.step n l e).old, h)
    go false e h = omega (arith, (C.skip n l e).0, h)

-- A walk over a side that begins at the place `from` comes to each dropped object of the side.
pub record Resumed (m : Meaning) (P : Plan) (up : Bool) (C : Course m P up) (q : Pending) (from : ℕ) : Type 0 where
  pub at : ℕ
  pub within : at ≤ C.many
  pub is : from ≡ C.old at
  pub few : C.num at ≤ C.num C.many
  pub ahead : (p : ℕ) → P.head p ≡ true → is_record_at P p ≡ up → Dropped P q p → C.num at < P.rank p

module _ (m : Meaning) (P : Plan) (limit : ℕ) (so : Standing m P limit) (low high : ℕ) (sides : Sides m P limit low high) where
  abbrev R : Course m P true
  R = sides.records

  abbrev C : Course m P false
  C = sides.classes

  in-records : (p : ℕ) → P.head p ≡ true → P.rank p ≤ R.num R.many → Positioned R so.planned sides.records_all p
  in-records p h l = positioned R so.planned sides.records_all p h (omega (arith, sides.records_first, (so.planned.counted p h).0)) l

  in-classes : (p : ℕ) → P.head p ≡ true → R.num R.many < P.rank p → Positioned C so.planned sides.classes_all p
  in-classes p h l = positioned C so.planned sides.classes_all p h (omega (arith, sides.classes_first, l)) (omega (arith, sides.classes_last, (so.planned.counted p h).1))

  -- the records come first
  pub record-rank : (p : ℕ) → P.head p ≡ true → is_record_at P p ≡ true → P.rank p ≤ R.num R.many
  record-rank p h r = elim (cases_lt (R.num R.many) (P.rank p)) [ inl l ↦ absurd (both_ways (is_record_at P p) (in-classes p h l).kind r) | inr l ↦ l ]

  pub class-rank : (p : ℕ) → P.head p ≡ true → is_record_at P p ≡ false → R.num R.many < P.rank p
  class-rank p h c = elim (cases_lt (R.num R.many) (P.rank p)) [ inl l ↦ l | inr l ↦ absurd (both_ways (is_record_at P p) c (in-records p h l).kind) ]

  -- each side has its objects within its ends
  pub record-below : (p : ℕ) → P.head p ≡ true → is_record_at P p ≡ true → p < low
  record-below p h r = let x = in-records p h (record-rank p h r) in let st = R.step x.at x.below x.here in omega (arith, x.place, st.room, st.here.some, sides.records_end)

  pub class-above : (p : ℕ) → P.head p ≡ true → is_record_at P p ≡ false → high ≤ p
  class-above p h c = let x = in-classes p h (class-rank p h c) in let st = C.step x.at x.below x.here in omega (arith, x.place, st.room, st.here.some, sides.classes_end)

  module _ (q : Pending) (from : ℕ) where
    pub records-resume : from ≡ min q.records_from low → RecordsFrom P q.records_from → Resumed m P true R q from
    records-resume e (inl none) =
        record {
          at = R.many;
          within = omega arith;
          is = omega (arith, e, none, sides.records_end, sides.records_fit, so.small);
          few = omega arith;
          ahead = λ p h r d. absurd (omega (arith, none, d.in_records r, so.planned.low p h));
        }
    records-resume e (inr first) =
        let n = q.records_from in
        let x = in-records n first.0 (record-rank n first.0 first.1) in
        let st = R.step x.at x.below x.here in
        record {
          at = x.at;
          within = omega (arith, x.below);
          is = omega (arith, e, x.place, st.room, st.here.some, sides.records_end);
          few = omega (arith, x.rank, record-rank n first.0 first.1);
          ahead = λ p h r d.
              let y = in-records p h (record-rank p h r) in
              let next = R.step y.at y.below y.here in
              let later : P.rank n ≤ R.num y.at + 1 = next.done n (lt-ltb _ _ (omega (arith, y.place, next.here.some, d.in_records r))) in
              omega (arith, x.rank, y.rank, later);
        }

    pub classes-resume : (most : ℕ) → limit ≤ most → from ≡ min (max q.classes_from high) most → ClassesFrom P q.classes_from → Resumed m P false C q from
    classes-resume most fit e (inl none) =
        record {
          at = C.many;
          within = omega arith;
          is = omega (arith, e, none, fit, sides.classes_end, sides.classes_from, falls C C.many (omega arith));
          few = omega arith;
          ahead = λ p h r d. absurd (omega (arith, none, d.in_classes r));
        }
    classes-resume most fit e (inr first) =
        let n = first.0 in
        let x = in-classes n first.1 (class-rank n first.1 first.2) in
        let st = C.step x.at x.below x.here in
        let big : P.words n / 16 ≡ C.size x.at = subst (λ (a : ℕ). P.words a / 16 ≡ C.size x.at) x.place st.here.big in
        let end : q.classes_from ≡ C.old x.at = omega (arith, first.3, big, x.place, st.room) in
        record {
          at = x.at;
          within = omega (arith, x.below);
          is = omega (arith, e, end, st.room, st.here.some, sides.classes_end, fit, sides.classes_from, falls C x.at (omega (arith, x.below)));
          few = omega (arith, x.rank, sides.classes_last, (so.planned.counted n first.1).1);
          ahead = λ p h r d.
              elim (cases_lt n p) [
                | inl l ↦
                    let same : P.rank p ≡ C.num x.at + 1 = st.here.owns p (omega (arith, x.place)) (omega (arith, x.place, first.3, big, d.in_classes r)) in
                    omega (arith, same)
                | inr l ↦
                    let y = in-classes p h (class-rank p h r) in
                    let next = C.step y.at y.below y.here in
                    let later : P.rank n ≤ C.num y.at + 1 = next.done n (le-leb _ _ (omega (arith, y.place))) in
                    omega (arith, x.rank, y.rank, later)
              ];
        }
