-- The reachable places are those of the reachable objects; the begin of a collection and its giving up, in the words of the graph.
use Rattle.std.proofs.Common.{min, ◌≡◌, ℕ, zero, suc, ◌+◌, ◌/◌, ◌%◌, ◌<◌, ◌≤◌, Bool, true, false, cond, ◌&&◌, ◌||◌, eqb, List, [], ◌++◌, length, get_or, drop, sym, refl, ap, ◌∙◌, subst, ap₂, inl, inr, add-zero, arith, length-append, take-append-drop}
use Rattle.std.proofs.lemmas.Bool.{false≢true, cases_Bool, and_parts, and_from, and_left, and_right, or_left, or_right, or_cases, cond-true, cond-false, ne_eqb, eq-eqb, eqb-true, cases_lt, cases_eq}
use Rattle.std.proofs.lemmas.List.{get_or_past, length-map}
use Rattle.scheme.specs.Meaning.{Meaning}
use Rattle.graph.specs.Graph.{Value, empty, number, object, Graph, held, object_at, size}
use Rattle.graph.specs.Reach.{Names, Reachable, by_handle, by_object, reachable, total, chosen_size, words_of}
use Rattle.graph.specs.Words.{place_of, reference, header_kind, value_word, image}
use Rattle.graph.specs.Sound.{Sound}
use Rattle.graph.specs.Rests.{Rests}
use Rattle.graph.proofs.Reach.{reachable-sound, reachable-complete}
use Rattle.graph.proofs.Order.{order-is-free}
use Rattle.graph.proofs.Sound.{sound-collects}
use Rattle.graph.proofs.Frame.{length-image, size-pos}
use Rattle.graph.proofs.Grow.{total-same}
use Rattle.graph.proofs.Laws.{references-read, headers-read}
use Rattle.space.specs.Weave.{view, Kept}
use Rattle.graph.specs.Places.{refers}
use Rattle.space.specs.Pass.{Plan}
use Rattle.graph.specs.Places.{is_object, turn_of, owner}
use Rattle.space.specs.Layout.{Keeps, plan}
use Rattle.graph.proofs.Places.{rest_at, one-turn, below-many, turn-bounds}
use Rattle.graph.proofs.Slots.{names-refer, names-word, refers_to}
use Rattle.space.proofs.Plans.{slot-of, head-of, slot_at, rank-at, word_at, handle-at, head-word, owner-place, ends, high-reference, kind-four}
use Rattle.marking.specs.declared.Pending.{Pending}
use Rattle.marking.specs.Marks.{count, Marked, marked, Reaches, by_handle as from-handle, by_object as from-object, live, Rooted, Settled, Done}
use Rattle.marking.specs.Unmarks.{Fading, UnmarkedSide}
use Rattle.marking.specs.Begins.{Begins, GivesUp}
use Rattle.graph.proofs.Totals.{total-put, total-none}
use Rattle.marking.proofs.Rounds.{start}
use Rattle.marking.proofs.Fades.{faded}
use Rattle.space.proofs.Courses.{sides-fit}
use Rattle.space.proofs.Standings.{keeps-all, standing, sides}
use Rattle.marking.proofs.Images.{look, image-marked, marks-in, marked-image}

both-same : (x y : Bool) → (x ≡ true → y ≡ true) → (y ≡ true → x ≡ true) → x ≡ y
both-same true y f h = sym (f refl)
both-same false true f h = h refl
both-same false false f h = refl

module _ (m : Meaning) (W : ℕ) (g : Graph) (s : List Bool) (snd : Sound m W g s) (lim : W ≤ 16384) (rest : List ℕ) where
  abbrev P : Plan
  P = plan W g s s rest

  abbrev kp : Keeps m W g s s
  kp = keeps-all m W g s snd lim

  one_place : (p q : ℕ) → get_or s p false ≡ true → get_or s q false ≡ true → place_of W g s p ≡ place_of W g s q → p ≡ q
  one_place p q x y e =
      let z : suc p ≡ suc q = sym (owner-place m W g s s kp rest p x) ∙ ap (owner W g s (length g.objects)) e ∙ owner-place m W g s s kp rest q y in
      omega (arith, z)

  rank-place : (q : ℕ) → get_or s q false ≡ true → P.rank (place_of W g s q) ≡ turn_of W g s q
  rank-place q e = ap P.rank (sym (add-zero (place_of W g s q))) ∙ rank-at m W g s s kp rest q 0 e (size-pos (object_at g q))

  -- a reachable place
  pub record Reached (a : ℕ) : Type 0 where
    pub by : ℕ
    pub stands : get_or s by false ≡ true
    pub is : a ≡ place_of W g s by
    pub way : Reachable g by

  to-place : (t w : ℕ) → w ≡ reference W g s t → w / 4 ≡ place_of W g s t
  to-place t w e = ap (λ (x : ℕ). x / 4) e ∙ (references-read W g s t).place

  pub reach-out : (a : ℕ) → Reaches P a → Reached a
  reach-out a (from-handle x sl rk e) =
      elim (slot-of m W g s s kp rest x sl) [
        | inl b ↦
            let st = b.kept in
            let r = ap P.rank b.is ∙ rank-at m W g s s kp rest b.object b.word st b.below in
            absurd (omega (arith, r, rk, (turn-bounds W g s snd.fits snd.as_long b.object st).0))
        | inr b ↦ root x b.handle b.is b.below (held g b.handle) refl b.refer e
      ]
    where
      root : (x h : ℕ) → x ≡ 16384 + h → h < 32 → (v : Value) → held g h ≡ v → is_object v ≡ true → a ≡ P.words x / 4 → Reached a
      root x h is l empty f z e = absurd (false≢true z)
      root x h is l (number n) f z e = absurd (false≢true z)
      root x h is l (object t) f z e =
          record {
            by = t;
            stands = snd.held_stands h t f;
            is = e ∙ to-place t _ (ap P.words is ∙ handle-at m W g s s kp rest h l ∙ ap (value_word (reference W g s)) f);
            way = by_handle h f;
          }
  reach-out a (from-object p x r sl rk e) =
      let from = reach-out p r in
      elim (slot-of m W g s s kp rest x sl) [
        | inl b ↦
            let st = b.kept in
            let rx = ap P.rank b.is ∙ rank-at m W g s s kp rest b.object b.word st b.below in
            let rp = ap P.rank from.is ∙ rank-place from.by from.stands in
            let same : b.object ≡ from.by = one-turn W g s snd.fits snd.as_long b.object from.by st from.stands (sym rx ∙ rk ∙ rp) in
            let t = refers_to (object_at g b.object) b.word b.refer b.below in
            let names : Names (object_at g from.by) t.0 = subst (λ (q : ℕ). Names (object_at g q) t.0) same t.1 in
            record {
              by = t.0;
              stands = snd.named_stands from.by t.0 from.stands names;
              is = e ∙ to-place t.0 _ (ap P.words b.is ∙ word_at m W g s s kp rest b.object b.word st b.below ∙ t.2 (reference W g s) (get_or s b.object false));
              way = by_object from.by from.way names;
            }
        | inr b ↦
            let rp = ap P.rank from.is ∙ rank-place from.by from.stands in
            let b0 = (turn-bounds W g s snd.fits snd.as_long from.by from.stands).0 in
            let low : x < 16384 → ⊥ = λ l. omega (arith, b.is, l) in
            absurd (omega (arith, rk, rp, b0, root-rank x b.handle b.is b.below))
      ]
    where
      root-rank : (x h : ℕ) → x ≡ 16384 + h → h < 32 → P.rank x ≡ 0
      root-rank x h is l = ap P.rank is ∙ ((standing m W g s snd lim rest).handles.region h (omega arith) l).0

  pub reach-stands : (q : ℕ) → Reachable g q → get_or s q false ≡ true
  reach-stands q (by_handle h e) = snd.held_stands h q e
  reach-stands q (by_object p r n) = snd.named_stands p q (reach-stands p r) n

  pub reach-in : (q : ℕ) → Reachable g q → Reaches P (place_of W g s q)
  reach-in q (by_handle h e) =
      let l : h < 32 = elim (cases_lt h 32) [ inl x ↦ x | inr x ↦ absurd (none (sym (get_or_past g.handles h empty (omega (arith, snd.handles_32))) ∙ e)) ] in
      let w = handle-at m W g s s kp rest h l ∙ ap (value_word (reference W g s)) e in
      let reg = (standing m W g s snd lim rest).handles.region h (omega arith) l in
      from-handle (16384 + h) (reg.2 ∙ ap refers w ∙ high-reference W g s q) reg.0 (sym (to-place q _ w))
    where
      none : empty ≡ object q → ⊥
      none z = false≢true (ap is_object z)
  reach-in q (by_object p r n) =
      let st = reach-stands p r in
      let o = object_at g p in
      let x = names-refer o q n in
      let i = x.0 in
      let sl : P.slot (place_of W g s p + i) ≡ true = slot_at m W g s s kp rest p i st x.2 ∙ and_from _ _ st x.1 in
      let t = refers_to o i x.1 x.2 in
      let w = word_at m W g s s kp rest p i st x.2 ∙ names-word o q n (reference W g s) (get_or s p false) in
      from-object (place_of W g s p) (place_of W g s p + i) (reach-in p r) sl (rank-at m W g s s kp rest p i st x.2 ∙ sym (rank-place p st)) (sym (to-place q _ w))

  -- the marks of a marked heap are those of the reachable objects
  pub marks-reach : (f : ℕ → ℕ) (words : ℕ) → Done P W f words → (q : ℕ) → get_or s q false ≡ true → marked P f (place_of W g s q) ≡ get_or (reachable g) q false
  marks-reach f words done q st =
      both-same _ _
      (λ t.
      let r = reach-out (place_of W g s q) (done.only (place_of W g s q) t) in
      let e : q ≡ r.by = one_place q r.by st r.stands r.is in
      subst (λ (x : ℕ). get_or (reachable g) x false ≡ true) (sym e) (reachable-complete g r.by (below-many W g s snd.fits snd.as_long r.by r.stands) r.way))
      (λ t. done.every (place_of W g s q) (reach-in q (reachable-sound g q t)))

  -- How many words the marked objects take.

  module _ (mk : List Bool) (sub : (q : ℕ) → get_or mk q false ≡ true → get_or s q false ≡ true) where
    -- a is the place of one of the first n objects of mk
    abbrev hit : ℕ → ℕ → Bool
    hit zero a = false
    hit (suc q) a = (get_or mk q false && eqb a (place_of W g s q)) || hit q a

    hit-out : (n a : ℕ) → hit n a ≡ true → (q : ℕ) × (q < n) × (get_or mk q false ≡ true) × (a ≡ place_of W g s q)
    hit-out zero a h = absurd (false≢true h)
    hit-out (suc n) a h =
        elim (or_cases (get_or mk n false && eqb a (place_of W g s n)) (hit n a) h) [
          | inl e ↦ let p = and_parts _ _ e in (n, omega arith, p.0, eqb-true _ _ p.1)
          | inr e ↦ let r = hit-out n a e in (r.0, omega (arith, r.1), r.2, r.3)
        ]

    hit-in : (n q : ℕ) → q < n → get_or mk q false ≡ true → hit n (place_of W g s q) ≡ true
    hit-in zero q l e = absurd (omega arith)
    hit-in (suc n) q l e =
        elim (cases_eq q n) [
          | inl z ↦ or_left _ _ (and_from _ _ (subst (λ (x : ℕ). get_or mk x false ≡ true) z e) (eq-eqb _ _ (ap (place_of W g s) z)))
          | inr ne ↦ or_right _ _ (hit-in n q (omega arith) e)
        ]

    sizes : (n : ℕ) → total (λ a. cond (hit n a) (P.words a / 16) 0) W ≡ total (chosen_size g mk) n
    sizes zero = total-none (λ a. 0) (λ a. refl) W
    sizes (suc k) = go (get_or mk k false) refl (sizes k)
      where
        p : ℕ
        p = place_of W g s k

        go : (b : Bool) → get_or mk k false ≡ b → total (λ a. cond (hit k a) (P.words a / 16) 0) W ≡ total (chosen_size g mk) k → total (λ a. cond (hit (suc k) a) (P.words a / 16) 0) W ≡ total (chosen_size g mk) (suc k)
        go true e i =
            let st = sub k e in
            let fresh : hit k (place_of W g s k) ≡ false =
            elim (cases_Bool (hit k (place_of W g s k))) [
              | inl t ↦ let r = hit-out k (place_of W g s k) t in let same = one_place k r.0 st (sub r.0 r.2) r.3 in absurd (omega (arith, same, r.1))
              | inr f ↦ f
            ] in
            let on = hit-in (suc k) k (omega arith) e in
            let size_is : P.words (place_of W g s k) / 16 ≡ size (object_at g k) = ap (λ (w : ℕ). w / 16) (head-word m W g s s kp rest k st) ∙ (headers-read (get_or s k false) (header_kind (object_at g k)) (size (object_at g k)) (kind-four (object_at g k))).sizes in
            let t =
            total-put (λ a. cond (hit k a) (P.words a / 16) 0) (λ a. cond (hit (suc k) a) (P.words a / 16) 0) (place_of W g s k)
            (λ a ne. ap (λ (b : Bool). cond (b || hit k a) (P.words a / 16) 0) (and_right (get_or mk k false) (eqb a (place_of W g s k)) (ne_eqb a (place_of W g s k) ne))) W
            (omega (arith, ends m W g s s kp rest k st, size-pos (object_at g k))) in
            let c : chosen_size g mk k ≡ size (object_at g k) = cond-true _ _ _ e in
            omega (arith, t, i, c, size_is, ap (λ (b : Bool). cond b (P.words (place_of W g s k) / 16) 0) fresh, ap (λ (b : Bool). cond b (P.words (place_of W g s k) / 16) 0) on)
        go false e i =
            let c : chosen_size g mk k ≡ 0 = cond-false _ _ _ e in
            let t =
            total-same (λ a. cond (hit k a) (P.words a / 16) 0) (λ a. cond (hit (suc k) a) (P.words a / 16) 0) W
            (λ a l. ap (λ (b : Bool). cond (b || hit k a) (P.words a / 16) 0) (and_left (get_or mk k false) (eqb a (place_of W g s k)) e)) in
            omega (arith, t, i, c)

    pub live_is : (f : ℕ → ℕ) → ((q : ℕ) → get_or s q false ≡ true → marked P f (place_of W g s q) ≡ get_or mk q false) → live P W f ≡ words_of g mk
    live_is f marks =
        total-same (λ a. cond (hit (length g.objects) a) (P.words a / 16) 0) (λ a. cond (marked P f a) (P.words a / 16) 0) W
        (λ a l. ap (λ (b : Bool). cond b (P.words a / 16) 0) (both-same (marked P f a) (hit (length g.objects) a) (λ t.
        let x = head-of m W g s s kp rest a (and_parts (P.head a) (eqb (f a % 4) 3) t).0 in
        subst (λ (p : ℕ). hit (length g.objects) p ≡ true) (sym x.3)
        (hit-in (length g.objects) x.0 (below-many W g s snd.fits snd.as_long x.0 x.2) (sym (marks x.0 x.2) ∙ subst (λ (p : ℕ). marked P f p ≡ true) x.3 t)))
        (λ t. let r = hit-out (length g.objects) a t in subst (λ (p : ℕ). marked P f p ≡ true) (sym r.3) (marks r.0 (sub r.0 r.2) ∙ r.2))))
        ∙ sizes (length g.objects)

-- the words of a heap at rest, with what lies behind them
pub rest-words : (m : Meaning) (W : ℕ) (g : Graph) (s : List Bool) (ws hs : List ℕ) → Rests m W g s ws hs → ws ≡ image W g s [] ++ drop W ws
rest-words m W g s ws hs r = sym (take-append-drop W ws) ∙ ap (λ (x : List ℕ). x ++ drop W ws) r.memory

pub begins : (m : Meaning) (W low high : ℕ) (ws hs us is vs gs : List ℕ) (q r t : Pending) → count q ≡ 0 → q.records_from ≡ 16384 → q.classes_from ≡ 0 → q.live ≡ 0 →
    Kept ws hs us is → Rooted ws hs q us is r → Kept us is vs gs → Settled m W low high us is r vs gs t → Begins m W low high ws hs vs gs t.live
begins m W low high ws hs us is vs gs q r t none end begin bare k1 roots k2 settled g s lim rests el eh =
    let snd = rests.sound in
    let rest = drop W ws in
    let P = plan W g s s rest in
    let st = standing m W g s snd lim rest in
    let whole = rest-words m W g s ws hs rests in
    let words : view ws hs ≡ look m W g s snd lim rest [] = ap₂ view whole rests.handle_words_are in
    let len : P.n ≡ length ws = sym (ap length whole ∙ length-append (image W g s []) rest ∙ ap (λ (n : ℕ). n + length rest) (length-image W g s [] snd.fits)) in
    let is0 : Marked P (view ws hs) = subst (Marked P) (sym words) (image-marked m W g s snd lim rest []) in
    let fresh : (a : ℕ) → marked P (view ws hs) a ≡ false = λ a.
    elim (cases_Bool (marked P (view ws hs) a)) [
      | inr f ↦ f
      | inl on ↦
          let x = head-of m W g s s (keeps-all m W g s snd lim) rest a (and_parts (P.head a) (eqb (view ws hs a % 4) 3) on).0 in
          absurd (false≢true (sym (marks-in m W g s snd lim rest [] x.0 x.2) ∙ subst (λ (f : ℕ → ℕ). marked P f (place_of W g s x.0) ≡ true) words (subst (λ (p : ℕ). marked P (view ws hs) p ≡ true) x.3 on)))
    ] in
    let rooted = roots m P W st len (start m P W st (view ws hs) q is0 fresh none end begin bare) in
    let done = settled P st (len ∙ sym k1.length) (sides m W g s snd lim rest low high el eh) rooted in
    let marks = marks-reach m W g s snd lim rest (view vs gs) t.live done in
    let im =
    marked-image m W g s snd lim rest (reachable g) vs gs done.is marks (k2.length ∙ k1.length ∙ sym len)
    (k2.many ∙ k1.many ∙ ap length rests.handle_words_are ∙ length-map g.handles (value_word (reference W g s)) ∙ snd.handles_32)
    (λ i l. k2.past i l ∙ k1.past i l ∙ ap (λ (x : List ℕ). get_or x i 0) whole ∙ rest_at W g rest s [] snd.fits i (omega arith)) in
    let sc = sound-collects m W g s snd in
    let stand : (p : ℕ) → get_or (reachable g) p false ≡ true → get_or s p false ≡ true = λ p e. reach-stands m W g s snd lim rest p (reachable-sound g p e) in
    record {
      begun =
          record {
            keeps = record { sound = snd; limit = lim; as_long = sc.as_long; stand = stand; held_kept = sc.held_stands; named_kept = sc.named_stands };
            memory = im.0;
            handle_words_are = im.1;
            low_end_is = el;
            high_end_is = eh;
          };
      handles = im.1 ∙ sym rests.handle_words_are;
      live = done.lives ∙ live_is m W g s snd lim rest (reachable g) stand (view vs gs) marks;
      any_order = λ order o. im.0 ∙ ap (λ (k : List Bool). image W g s k ++ rest) (sym (order-is-free g order o).marks);
    }

-- clamped to the words, the ends of the sides are as they were
pub gives_up : (W low high most end from : ℕ) (vs gs us is ts js : List ℕ) → most ≡ min (length vs) 16384 → end ≡ min low most → from ≡ min W most →
    UnmarkedSide true 0 end vs gs us is → Kept vs gs us is → UnmarkedSide false from high us is ts js → Kept us is ts js → GivesUp W low high vs gs ts js
gives_up W low high most end from vs gs us is ts js em ee ef u1 k1 u2 k2 m g s k ws hs rests begun =
    let snd = rests.sound in
    let lim = begun.keeps.limit in
    let rest = drop W ws in
    let P = plan W g s s rest in
    let st = standing m W g s snd lim rest in
    let words : view vs gs ≡ look m W g s snd lim rest k = ap₂ view begun.memory begun.handle_words_are in
    let len : P.n ≡ length vs = sym (ap length begun.memory ∙ length-append (image W g s k) rest ∙ ap (λ (n : ℕ). n + length rest) (length-image W g s k snd.fits)) in
    let within : W ≤ most = omega (arith, em, len, lim) in
    let end_is : end ≡ low = omega (arith, ee, within, begun.low_end_is, sides-fit m W g s k begun.keeps rest) in
    let from_is : from ≡ W = omega (arith, ef, within) in
    let is0 : Marked P (view vs gs) = subst (Marked P) (sym words) (image-marked m W g s snd lim rest k) in
    let sd = sides m W g s snd lim rest low high begun.low_end_is begun.high_end_is in
    let f1 =
    u1 m P W sd.records st len sd.records_from (end_is ∙ sd.records_end) sd.records_all
    (record { is = is0; behind = λ a on. let c = (st.planned.counted a (and_parts (P.head a) (eqb (view vs gs a % 4) 3) on).0).0 in subst (λ (n : ℕ). n < P.rank a) (sym sd.records_first) c }) in
    let f2 =
    u2 m P W sd.classes st (len ∙ sym k1.length) (from_is ∙ sd.classes_from) sd.classes_end sd.classes_all
    (subst (λ (n : ℕ). Fading P n (view us is)) (sym sd.classes_first) f1) in
    let off = faded P (view ts js) st.planned (subst (λ (n : ℕ). Fading P n (view ts js)) sd.classes_last f2) in
    let im =
    marked-image m W g s snd lim rest [] ts js f2.is (λ q e. off (place_of W g s q)) (k2.length ∙ k1.length ∙ sym len)
    (k2.many ∙ k1.many ∙ ap length begun.handle_words_are ∙ length-map g.handles (value_word (reference W g s)) ∙ snd.handles_32)
    (λ i l. k2.past i l ∙ k1.past i l ∙ ap (λ (x : List ℕ). get_or x i 0) begun.memory ∙ rest_at W g rest s k snd.fits i (omega arith)) in
    (im.0 ∙ sym (rest-words m W g s ws hs rests), im.1 ∙ sym rests.handle_words_are)
