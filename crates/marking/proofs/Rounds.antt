-- The start of marking, its handles, its rounds and its end.
use Rattle.std.proofs.Common.{◌≡◌, ℕ, ◌+◌, ◌/◌, ◌<◌, ◌≤◌, Bool, true, false, cond, ◌⊎◌, ltb, List, length, get_or, sym, refl, ap, ◌∙◌, subst, inl, inr, arith}
use Rattle.std.proofs.lemmas.Bool.{both_ways, cases_Bool, lt-ltb, cases_eq}
use Rattle.scheme.specs.Meaning.{Meaning}
use Rattle.space.specs.Weave.{view}
use Rattle.graph.specs.Places.{refers}
use Rattle.space.specs.Pass.{Plan}
use Rattle.marking.specs.declared.Pending.{Pending}
use Rattle.space.specs.Standing.{Standing}
use Rattle.marking.specs.Marks.{Marked, marked, Reaches, by_handle, by_object, due, is_record_at, stage, count, Dropped, RecordsFrom, ClassesFrom, Going, nothing, after, MarkedAt, Done}
use Rattle.space.proofs.Stores.{view-handle}
use Rattle.space.proofs.Walk.{inside-below}
use Rattle.graph.proofs.Totals.{total-none}
use Rattle.marking.proofs.Steps.{plain, head-of, turn-todo, few-unmarked}

module _ (m : Meaning) (P : Plan) (limit : ℕ) (so : Standing m P limit) where
  -- nothing is marked yet
  pub start : (look : ℕ → ℕ) (q : Pending) → Marked P look → ((a : ℕ) → marked P look a ≡ false) → count q ≡ 0 → q.records_from ≡ 16384 → q.classes_from ≡ 0 → q.live ≡ 0 → Going P limit (stage 0 nothing 16384 16384) look q
  start look q is fresh none low high words =
      record {
        is = is;
        sound = λ a e. absurd (both_ways (marked P look a) (fresh a) e);
        rooted = λ x sl rk l. absurd (both_ways (P.slot x) (so.handles.only x (omega arith) rk) sl);
        pends = λ k l. absurd (omega arith);
        closed = λ p x e _ _ _. absurd (both_ways (marked P look p) (fresh p) e);
        records = inl low;
        classes = inl high;
        lives = words ∙ sym (total-none (λ a. cond (marked P look a) (P.words a / 16) 0) (λ a. ap (λ (b : Bool). cond b (P.words a / 16) 0) (fresh a)) limit);
        turned = omega (arith, few-unmarked P limit look so.small);
        rounded = rw (low, high) (omega (arith, few-unmarked P limit look so.small));
      }

  -- a handle's word
  pub handle-word : (ws hs : List ℕ) (h : ℕ) → h < 32 → Marked P (view ws hs) → get_or hs h 0 ≡ P.words (16384 + h)
  handle-word ws hs h l is = sym (view-handle ws hs h l) ∙ plain P (view ws hs) is (16384 + h) (so.handles.region h (omega arith) l).1

  module _ (h : ℕ) (l : h < 32) (todo : ℕ → Bool) (turns rounds : ℕ) where
    root-more : (look : ℕ → ℕ) (q : Pending) → (P.slot (16384 + h) ≡ true → marked P look (P.words (16384 + h) / 4) ≡ true) →
        Going P limit (stage h todo turns rounds) look q → Going P limit (stage (h + 1) todo turns rounds) look q
    root-more look q done go =
        record {
          is = go.is;
          sound = go.sound;
          rooted = λ x sl rk lt. elim (cases_eq x (16384 + h)) [
            | inl f ↦ subst (λ (y : ℕ). marked P look (P.words y / 4) ≡ true) (sym f) (done (subst (λ (y : ℕ). P.slot y ≡ true) f sl))
            | inr ne ↦ go.rooted x sl rk (omega arith)
          ];
          pends = go.pends;
          closed = go.closed;
          records = go.records;
          classes = go.classes;
          lives = go.lives;
          turned = go.turned;
          rounded = go.rounded;
        }

    slot_is : P.slot (16384 + h) ≡ refers (P.words (16384 + h))
    slot_is = (so.handles.region h (omega arith) l).2

    pub root-mark : (ws hs vs gs : List ℕ) (q r : Pending) (w : ℕ) → P.n ≡ length ws → w ≡ P.words (16384 + h) → refers w ≡ true → (t : ℕ) → t ≡ w / 4 → MarkedAt ws hs q t vs gs r →
        Going P limit (stage h todo turns rounds) (view ws hs) q → Going P limit (stage (h + 1) todo turns rounds) (view vs gs) r
    root-mark ws hs vs gs q r w e f refer t et mark go =
        let to = et ∙ ap (λ (x : ℕ). x / 4) f in
        let sl : P.slot (16384 + h) ≡ true = slot_is ∙ subst (λ (x : ℕ). refers x ≡ true) f refer in
        let got =
        mark m P limit (stage h todo turns rounds) so e (subst (λ (x : ℕ). P.head x ≡ true) (sym to) (so.planned.slots (16384 + h) sl).target)
        (by_handle (16384 + h) sl (so.handles.region h (omega arith) l).0 to) go in
        root-more (view vs gs) r (λ _. subst (λ (x : ℕ). marked P (view vs gs) x ≡ true) to got.1) got.0

    pub root-skip : (look : ℕ → ℕ) (q : Pending) (w : ℕ) → w ≡ P.words (16384 + h) → refers w ≡ false → Going P limit (stage h todo turns rounds) look q → Going P limit (stage (h + 1) todo turns rounds) look q
    root-skip look q w f plain go =
        root-more look q (λ sl. absurd (both_ways (P.slot (16384 + h)) (slot_is ∙ subst (λ (x : ℕ). refers x ≡ false) f plain) sl)) go

  -- a round over one side, from the object behind number j on: what is dropped there is to do, what is dropped on the other side stays so
  pub restart : (roots rounds fewer j : ℕ) (chosen : ℕ → Bool) (look : ℕ → ℕ) (q r : Pending) →
      ((p x : ℕ) → P.head p ≡ true → P.rank x ≡ P.rank p → Dropped P q p → (after P chosen j x ≡ true) ⊎ Dropped P r p) →
      rounds ≤ fewer + 1 → due r + 1 ≡ due q → count q ≡ 0 → count r ≡ count q → RecordsFrom P r.records_from → ClassesFrom P r.classes_from → r.live ≡ q.live →
      Going P limit (stage roots nothing 16384 rounds) look q → Going P limit (stage roots (after P chosen j) 16384 fewer) look r
  restart roots rounds fewer j chosen look q r ahead more one none same records classes lv go =
      record {
        is = go.is;
        sound = go.sound;
        rooted = go.rooted;
        pends = λ i l. absurd (omega (arith, same, none, l));
        closed = λ p x e sl rk z.
            elim (go.closed p x e sl rk refl) [
              | inl (inl i) ↦ absurd (omega (arith, none, i.1.0))
              | inl (inr d) ↦ elim (ahead p x (head-of m P limit so look p e) rk d) [ inl a ↦ absurd (both_ways (after P chosen j x) z a) | inr still ↦ inl (inr still) ]
              | inr y ↦ inr y
            ];
        records = records;
        classes = classes;
        lives = lv ∙ go.lives;
        turned = omega (arith, same, go.turned);
        rounded = omega (arith, go.rounded, one);
      }

  -- it is over: none is to do
  pub round-end : (roots rounds a : ℕ) (chosen : ℕ → Bool) (look : ℕ → ℕ) (q : Pending) → ((x : ℕ) → P.slot x ≡ true → after P chosen a x ≡ false) →
      Going P limit (stage roots (after P chosen a) 16384 rounds) look q → Going P limit (stage roots nothing 16384 rounds) look q
  round-end roots rounds a chosen look q over = turn-todo P limit roots (after P chosen a) nothing 16384 rounds look q (λ p x z sl rk v. inl (over x sl))

  -- no round is left
  pub no-round : (roots : ℕ) (todo : ℕ → Bool) (turns rounds : ℕ) (look : ℕ → ℕ) (q : Pending) → rounds ≡ 0 → Going P limit (stage roots todo turns rounds) look q → due q ≡ 0
  no-round roots todo turns rounds look q e go = omega (arith, e, go.rounded)

  -- so nothing is dropped
  pub none-due : (q : Pending) → due q ≡ 0 → (p : ℕ) → P.head p ≡ true → Dropped P q p → ⊥
  none-due q e p h d =
      elim (cases_Bool (is_record_at P p)) [
        | inl r ↦ let low = so.planned.low p h in let l : q.records_from < 16384 = omega (arith, d.in_records r) in w (ltb q.records_from 16384) (cond (ltb 0 q.classes_from) 1 0) (lt-ltb _ _ l) e
        | inr c ↦ let l : 0 < q.classes_from = omega (arith, d.in_classes c) in v (ltb 0 q.classes_from) (cond (ltb q.records_from 16384) 1 0) (lt-ltb _ _ l) e
      ]
    where
      w : (b : Bool) (n : ℕ) → b ≡ true → cond b 1 0 + n ≡ 0 → ⊥
      w true n x y = omega arith
      w false n x y = both_ways false refl x

      v : (b : Bool) (n : ℕ) → b ≡ true → n + cond b 1 0 ≡ 0 → ⊥
      v true n x y = omega arith
      v false n x y = both_ways false refl x

  pub finish : (rounds : ℕ) (look : ℕ → ℕ) (q : Pending) → count q ≡ 0 → ((p : ℕ) → P.head p ≡ true → Dropped P q p → ⊥) → Going P limit (stage 32 nothing 16384 rounds) look q → Done P limit look q.live
  finish rounds look q none room go = record { is = go.is; only = go.sound; every = every; lives = go.lives }
    where
      every : (a : ℕ) → Reaches P a → marked P look a ≡ true
      every a (by_handle x sl rk e) = subst (λ (y : ℕ). marked P look y ≡ true) (sym e) (go.rooted x sl rk (inside-below P.n x (so.planned.slots x sl).within))
      every a (by_object p x r sl rk e) =
          subst (λ (y : ℕ). marked P look y ≡ true) (sym e)
          (elim (go.closed p x (every p r) sl rk refl) [ inl (inl k) ↦ absurd (omega (arith, none, k.1.0)) | inl (inr d) ↦ absurd (room p (head-of m P limit so look p (every p r)) d) | inr y ↦ y ])
