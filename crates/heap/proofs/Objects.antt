-- A new object.
use Rattle.std.proofs.Common.{◌≡◌, ℕ, zero, suc, ◌+◌, ◌-◌, ◌*◌, ◌<◌, ◌≤◌, min, Bool, true, false, cond, not, ◌&&◌, eqb, ltb, leb, List, [], ◌∷◌, ◌++◌, map, length, get_or, take, drop, set, replicate, ℤ, pos, IsErrAnd, Ok, Err, Result, sym, refl, ap, ◌∙◌, subst, ap₂, inl, inr, add-zero, arith, length-set}
use lib.Seq.{take-set-lt}
use Rattle.std.proofs.lemmas.Bool.{cases_Bool, cases_lt, cond-true, cond-false, lt-ltb, le-ltb, not_from_true, eq-eqb, eqb-true, eqb-false}
use Rattle.std.proofs.lemmas.Bool.Decides.{nat_tests}
use Rattle.std.proofs.lemmas.Grind.{same_number_lists}
use Rattle.std.proofs.lemmas.List.{length-append, length-replicate, length-drop, get_or_append_left, get_or-append_right, get_or-drop, get_or-replicate, drop-set-lt, length-map, get_or_past, get_or-set_same, get_or-set_other}
use Rattle.memory.specs.Ranges.{cleared as zeroed}
use Rattle.scheme.specs.Meaning.{Meaning, is_raw}
use Rattle.graph.specs.declared.Call.{Call}
use Rattle.graph.specs.declared.Refusal.{Refusal}
use Rattle.graph.specs.Graph.{Value, empty, number, object, Object, a_record, a_layout, a_map, Graph, held, object_at, is_record, size, make}
use Rattle.std.specs.List.{range_with_len}
use Rattle.std.proofs.lemmas.List.FromFn.{length-map-range_with_len}
use Rattle.heap.specs.Checks.{map_of}
use Rattle.graph.specs.declared.Call.TheVariants.{Map, Layout, Record}
use Rattle.graph.proofs.Rests.{read-handle}
use Rattle.graph.specs.Reach.{Names, reachable, live_words, words_of, total}
use Rattle.graph.specs.Step.{makes, row, position_of, object_of, object_kind, kind_of, figure_of, fresh_cell, fresh_cells, fresh_record}
use Rattle.graph.specs.Words.{put, record_size, class_size, low_end, high_end, between, place_of, reference, object_words, image, header, value_word, field_word}
use Rattle.graph.specs.Advance.{cleared}
use Rattle.graph.proofs.Grow.{Within, allocated, new-place, new-handles, new-object, new-standing, old-objects, old-standing, below-record_size, below-class_size, total-same, length_more, between_ends}
use Rattle.graph.proofs.Frame.{total-sides, length-object_words, size-pos}
use Rattle.graph.proofs.Stays.{room-made, kind-object, fresh-names}
use Rattle.graph.proofs.Sound.{stands-below, live-le, names-out}
use Rattle.graph.specs.Sound.{Sound}
use Rattle.heap.specs.Effects.{View, parts, with_class, with_record, record_words, handle_word, effect, Alters}
use Rattle.std.proofs.lemmas.Result.{err_from_is_err_and}
use Rattle.heap.specs.declared.Heap.{Heap}
use Rattle.heap.specs.Views.{view, Stands, Done, Meets, Room, Rooms, outcome_of}
use Rattle.heap.specs.Checks.{Passes}
use Rattle.heap.proofs.Acts.{Shows, shows, granted-done, full-done}

-- Words written one after another.

pub length-put : (ws xs : List ℕ) (p : ℕ) → length (put xs p ws) ≡ length xs
length-put [] xs p = refl
length-put (w ∷ ws) xs p = length-put ws (set xs p w) (suc p) ∙ length-set xs p w

pub take_put : (ws xs : List ℕ) (p W : ℕ) → p + length ws ≤ W → take W (put xs p ws) ≡ put (take W xs) p ws
take_put [] xs p W l = refl
take_put (w ∷ ws) xs p W l = take_put ws (set xs p w) (suc p) W (omega arith) ∙ ap (λ (ys : List ℕ). put ys (suc p) ws) (take-set-lt W xs p w (omega arith))

pub drop-put : (ws xs : List ℕ) (p W : ℕ) → p + length ws ≤ W → drop W (put xs p ws) ≡ drop W xs
drop-put [] xs p W l = refl
drop-put (w ∷ ws) xs p W l = drop-put ws (set xs p w) (suc p) W (omega arith) ∙ drop-set-lt W xs p w (omega arith)

pub put-push : (ws xs : List ℕ) (p w : ℕ) → put xs p (ws ++ (w ∷ [])) ≡ set (put xs p ws) (p + length ws) w
put-push [] xs p w = ap (λ (k : ℕ). set xs k w) (sym (add-zero p))
put-push (y ∷ ws) xs p w = let e : suc p + length ws ≡ p + suc (length ws) = omega arith in put-push ws (set xs p y) (suc p) w ∙ ap (λ (k : ℕ). set (put (set xs p y) (suc p) ws) k w) e

-- the word at k after so many zeros are written
zeros-at : (ws : List ℕ) (p n k : ℕ) → get_or (put ws p (replicate n 0)) k 0 ≡ zeroed ws p (p + n) k
zeros-at ws p zero k = sym (cond-false _ _ _ (none p k))
  where
    none : (p k : ℕ) → (leb p k && ltb k (p + 0)) ≡ false
    none p k = grind (arith, nat_tests)
zeros-at ws p (suc n) k = zeros-at (set ws p 0) (suc p) n k ∙ go (eqb k p) refl
  where
    here : (p n k : ℕ) → k ≡ p → (leb p k && ltb k (p + suc n)) ≡ true
    here p n k e = grind (arith, nat_tests)

    above : (p n k : ℕ) → k ≡ p → (leb (suc p) k && ltb k (suc p + n)) ≡ false
    above p n k e = grind (arith, nat_tests)

    elsewhere : (p n k : ℕ) → (k ≡ p → ⊥) → (leb (suc p) k && ltb k (suc p + n)) ≡ (leb p k && ltb k (p + suc n))
    elsewhere p n k h = grind (arith, nat_tests)

    blank : get_or (set ws p 0) p 0 ≡ 0
    blank = elim (cases_lt p (length ws)) [
      | inl i ↦ get_or-set_same ws p 0 0 i
      | inr o ↦ get_or_past (set ws p 0) p 0 (subst (λ j. j ≤ p) (sym (length-set ws p 0)) o)
    ]

    go : (b : Bool) → eqb k p ≡ b → zeroed (set ws p 0) (suc p) (suc p + n) k ≡ zeroed ws p (p + suc n) k
    go true z =
        let e : k ≡ p = eqb-true _ _ z in
        cond-false _ _ _ (above p n k e) ∙ ap (λ x. get_or (set ws p 0) x 0) e ∙ blank ∙ sym (cond-true _ _ _ (here p n k e))
    go false z =
        let h : k ≡ p → ⊥ = eqb-false _ _ z in
        ap₂ (λ b w. cond b 0 w) (elsewhere p n k h) (get_or-set_other ws p k 0 0 h)

-- a range of the words that is cleared is so many zeros written one after another
pub put-zeros : (ws vs : List ℕ) (p n : ℕ) → length vs ≡ length ws → ((k : ℕ) → get_or vs k 0 ≡ zeroed ws p (p + n) k) → vs ≡ put ws p (replicate n 0)
put-zeros ws vs p n l so = same_number_lists vs _ (l ∙ sym (length-put (replicate n 0) ws p)) (λ k _. so k ∙ sym (zeros-at ws p n k))

-- and at the front it leaves zeros before what was behind them
pub zeros-front : (ws vs : List ℕ) (n : ℕ) → n ≤ length ws → length vs ≡ length ws → ((k : ℕ) → get_or vs k 0 ≡ zeroed ws 0 n k) → vs ≡ replicate n 0 ++ drop n ws
zeros-front ws vs n le l so = same_number_lists vs _ (l ∙ sym long) (λ k _. so k ∙ at k)
  where
    long : length (replicate n 0 ++ drop n ws) ≡ length ws
    long = length-append (replicate n 0) (drop n ws) ∙ simp (length-replicate, length-drop) (omega arith)

    front : (n k : ℕ) → k < n → (leb 0 k && ltb k n) ≡ true
    front n k h = grind (arith, nat_tests)

    behind : (n k : ℕ) → n ≤ k → (leb 0 k && ltb k n) ≡ false
    behind n k h = grind (arith, nat_tests)

    at : (k : ℕ) → zeroed ws 0 n k ≡ get_or (replicate n 0 ++ drop n ws) k 0
    at k =
        elim (cases_lt k n) [
          | inl h ↦
              cond-true _ _ _ (front n k h)
              ∙ sym (get_or_append_left (replicate n 0) (drop n ws) 0 k (subst (λ m. k < m) (sym (length-replicate n 0)) h) ∙ get_or-replicate n k 0 0 h)
          | inr h ↦
              let same : n + (k - n) ≡ k = omega arith in
              cond-false _ _ _ (behind n k h)
              ∙ sym (get_or-append_right (replicate n 0) (drop n ws) n k 0 (length-replicate n 0) h ∙ get_or-drop n ws (k - n) 0 ∙ ap (λ i. get_or ws i 0) same)
        ]

-- Room.

module _ (m : Meaning) (v : View) (g : Graph) (s : List Bool) (st : Stands m v g s) (need : ℕ) where
  gap : v.high - v.low ≡ between v.limit g s
  gap = ap₂ (λ (a b : ℕ). a - b) st.high_is st.low_is ∙ sym (between_ends v.limit g s st.rests.sound.fits).1

  -- there is room at once
  pub room-there : v.low + need ≤ v.high → Room m need v g s v (Ok tt)
  room-there l =
      let enough : need ≤ between v.limit g s = omega (arith, gap) in
      let c : cleared v.limit g s need ≡ s = cond-false _ _ _ (le-ltb (between v.limit g s) need enough) in
      let fits : ltb v.limit (live_words g + need) ≡ false = le-ltb v.limit (live_words g + need) (omega (arith, live-le m v.limit g s st.rests.sound, st.rests.sound.fits, enough)) in
      (subst (λ (t : List Bool). Stands m v g t) (sym c) st, fits)

  -- it has been made by a collection, or there is none
  pub room-packed : (v' : View) → v.high < v.low + need → Stands m v' g (reachable g) → live_words g + need ≤ v.limit → Room m need v g s v' (Ok tt)
  room-packed v' l st' fits =
      let apart : v.low ≤ v.high = omega (arith, st.low_is, st.high_is, (between_ends v.limit g s st.rests.sound.fits).0) in
      let c : cleared v.limit g s need ≡ reachable g = cond-true _ _ _ (lt-ltb (between v.limit g s) need (omega (arith, gap, apart))) in
      (subst (λ (t : List Bool). Stands m v' g t) (sym c) st', le-ltb v.limit (live_words g + need) fits)

-- The heap with the new object.

module _ (m : Meaning) (v : View) (g : Graph) (s : List Bool) (st : Stands m v g s) (d : ℕ) (o : Object) (room : words_of g s + size o ≤ v.limit) (here : (q : ℕ) → Names o q → get_or s q false ≡ true) where
  abbrev W : ℕ
  W = v.limit

  abbrev n : ℕ
  n = length g.objects

  abbrev g' : Graph
  g' = make g d o

  abbrev s' : List Bool
  s' = s ++ (true ∷ [])

  long : length s ≡ length g.objects
  long = st.rests.sound.as_long

  within : (j : ℕ) → j < length g.objects → Within (length g.objects) (object_at g j)
  unfolding Within
  within j l q h = st.rests.sound.within j q h

  here-below : Within (length g.objects) o
  unfolding Within
  here-below q h = omega (arith, stands-below s q (here q h), long)

  held_below : (h q : ℕ) → held g h ≡ object q → q < length g.objects
  held_below h q e = omega (arith, stands-below s q (st.rests.sound.held_stands h q e), long)

  old : (j : ℕ) → j < length g.objects → object_at g' j ≡ object_at g j
  old = old-objects W g s d o room long within here-below

  old-s : (j : ℕ) → j < length g.objects → get_or s' j false ≡ get_or s j false
  old-s = old-standing W g s d o room long within here-below

  new-o : object_at g' (length g.objects) ≡ o
  new-o = new-object W g s d o room long within here-below

  new-s : get_or s' (length g.objects) false ≡ true
  new-s = new-standing W g s d o room long within here-below

  low-grows : low_end g' s' ≡ low_end g s + cond (is_record o) (size o) 0
  low-grows =
      ap (λ (k : ℕ). total (record_size g' s') k) (length_more g.objects o)
      ∙ ap₂ (λ (a b : ℕ). a + b) (total-same (record_size g s) (record_size g' s') n (below-record_size W g g' s s' n old old-s))
      (ap₂ (λ (b : Bool) (x : Object). cond (b && is_record x) (size x) 0) new-s new-o)

  high-falls : high_end W g' s' ≡ high_end W g s - cond (is_record o) 0 (size o)
  high-falls =
      ap (λ (k : ℕ). W - total (class_size g' s') k) (length_more g.objects o)
      ∙ ap₂ (λ (a b : ℕ). W - (a + b)) (total-same (class_size g s) (class_size g' s') n (below-class_size W g g' s s' n old old-s))
      (ap₂ (λ (b : Bool) (x : Object). cond (b && not (is_record x)) (size x) 0) new-s new-o ∙ flip (is_record o) (size o))
      ∙ omega arith
    where
      flip : (b : Bool) (k : ℕ) → cond (not b) k 0 ≡ cond b 0 k
      flip true k = refl
      flip false k = refl

  module _ (p word : ℕ) (ws : List ℕ) (at : p ≡ cond (is_record o) v.low (v.high - size o)) (ws-is : ws ≡ object_words (reference v.limit g s) false o) (word_is : word ≡ p * 4 + cond (is_record o) 2 3) where
    at_new : p ≡ place_of W g' s' n
    at_new = at ∙ ap₂ (λ (a b : ℕ). cond (is_record o) a (b - size o)) st.low_is st.high_is ∙ sym (new-place W g s d o room long within here-below)

    ws-long : length ws ≡ size o
    ws-long = ap length ws-is ∙ length-object_words (reference v.limit g s) false o

    pub in-W : p + length ws ≤ v.limit
    in-W =
        let t = total-sides g s (length g.objects) in
        elim (cases_Bool (is_record o)) [
          | inl e ↦ let k : p ≡ v.low = at ∙ cond-true _ _ _ e in omega (arith, k, st.low_is, ws-long, t, room)
          | inr e ↦ let k : p ≡ v.high - size o = at ∙ cond-false _ _ _ e in omega (arith, k, st.high_is, ws-long, t, room)
        ]

    makes-shows : Shows (parts (put v.words p ws) (set v.handles d word) (v.low + cond (is_record o) (size o) 0) (v.high - cond (is_record o) 0 (size o)) v.limit) g' s'
    makes-shows =
        let sh = shows m v g s st in
        record {
          memory =
              take_put ws v.words p W in-W
              ∙ ap (λ (xs : List ℕ). put xs p ws) sh.memory
              ∙ ap₂ (λ (k : ℕ) (ys : List ℕ). put (image W g s []) k ys) at_new ws-is
              ∙ sym (allocated W g s d o room long within here-below);
          handle_words_are =
              ap₂ (λ (hs : List ℕ) (k : ℕ). set hs d k) sh.handle_words_are (word_is ∙ ap₂ (λ (k : ℕ) (x : Object). k * 4 + cond (is_record x) 2 3) at_new (sym new-o))
              ∙ sym (new-handles W g s d o room long within here-below held_below);
          limited = sh.limited ∙ ap (λ (k : ℕ). min k 16384) (sym (length-put ws v.words p));
          low_is = ap (λ (k : ℕ). k + cond (is_record o) (size o) 0) sh.low_is ∙ sym low-grows;
          high_is = ap (λ (k : ℕ). k - cond (is_record o) 0 (size o)) sh.high_is ∙ sym high-falls;
        }

-- what the code has put, as equations
pub record Puts (d : ℕ) (o : Object) (ref : ℕ → ℕ) (before after : View) : Type 0 where
  pub place : ℕ
  pub place_is : place ≡ cond (is_record o) before.low (before.high - size o)
  pub new_words : List ℕ
  pub words_are : new_words ≡ object_words ref false o
  pub memory : after.words ≡ put before.words place new_words
  pub handles : (place < 16384 → after.handles ≡ set before.handles d (place * 4 + cond (is_record o) 2 3))
  pub low : (place < 16384 → after.low ≡ before.low + cond (is_record o) (size o) 0)
  pub high : after.high ≡ before.high - cond (is_record o) 0 (size o)
  pub limit : after.limit ≡ before.limit

parts_same : {a a' b b' : List ℕ} {c c' d d' e e' : ℕ} → a ≡ a' → b ≡ b' → c ≡ c' → d ≡ d' → e ≡ e' → parts a b c d e ≡ parts a' b' c' d' e'
parts_same {a} {a'} {b} {b'} {c} {c'} {d} {d'} {e} {e'} p q r t u =
    ap₂ (λ (x y : List ℕ). parts x y c d e) p q ∙ ap₂ (λ (x y : ℕ). parts a' b' x y e) r t ∙ ap (λ (x : ℕ). parts a' b' c' d' x) u

pub made-done : (m : Meaning) (c : Call) (v : View) (g : Graph) (s : List Bool) → Stands m v g s → (v₁ : View) → v₁.limit ≡ v.limit → drop v.limit v₁.words ≡ drop v.limit v.words
    → (d : ℕ) (o : Object) → (row m v.limit g c).1 ≡ makes d o → Passes (row m v.limit g c).0 → Room m (size o) v g s v₁ (Ok tt)
    → ((t : List Bool) → Sound m v.limit g t → (q : ℕ) → Names o q → get_or t q false ≡ true)
    → (v₂ : View) → Puts d o (reference v₁.limit g (cleared v.limit g s (size o))) v₁ v₂ → Done m c v g s v₂ (Ok (pos 0))
made-done m c v g s st v₁ same later d o act ok room stand v₂ puts =
    let made = room-made m v.limit g s st.rests.sound (size o) room.1 in
    let s₁ = cleared v.limit g s (size o) in
    let st₁ : Stands m v₁ g s₁ = room.0 in
    let fits : words_of g s₁ + size o ≤ v₁.limit = omega (arith, made.1, same) in
    let here = stand s₁ made.0 in
    let ws-is : puts.new_words ≡ object_words (reference v₁.limit g s₁) false o = puts.words_are in
    let bound = in-W m v₁ g s₁ st₁ d o fits here puts.place (puts.place * 4 + cond (is_record o) 2 3) puts.new_words puts.place_is ws-is refl in
    let size_is : length puts.new_words ≡ size o = ap length ws-is ∙ length-object_words (reference v₁.limit g s₁) false o in
    let small : puts.place < 16384 = omega (arith, bound, size_is, size-pos o, st₁.limited) in
    let is = parts_same puts.memory (puts.handles small) (puts.low small) puts.high puts.limit in
    granted-done m c v g s st v₂ (puts.limit ∙ same)
    (ap (drop v.limit) puts.memory ∙ drop-put puts.new_words v₁.words puts.place v.limit (omega (arith, bound, same)) ∙ later)
    (makes d o) act ok room.1
    (subst (λ (u : View). Shows u (make g d o) (s₁ ++ (true ∷ []))) (sym is)
    (makes-shows m v₁ g s₁ st₁ d o fits here puts.place _ puts.new_words puts.place_is ws-is refl))

-- refusal 31
pub unmade-done : (m : Meaning) (c : Call) (v : View) (g : Graph) (s : List Bool) → Stands m v g s → (v₁ : View) → v₁.limit ≡ v.limit → drop v.limit v₁.words ≡ drop v.limit v.words
    → (d : ℕ) (o : Object) (e : Refusal) → (row m v.limit g c).1 ≡ makes d o → Passes (row m v.limit g c).0 → Room m (size o) v g s v₁ (Err e) → Done m c v g s v₁ (Err e)
unmade-done m c v g s st v₁ same later d o e act ok room =
    subst (λ (x : Refusal). Done m c v g s v₁ (Err x)) (sym room.0)
    (full-done m c v g s st v₁ same later (makes d o) act ok room.2 (shows m v₁ g (reachable g) room.1))

-- What the new objects name stands.

map_stands : (m : Meaning) (W : ℕ) (g : Graph) (r n p : ℕ) (t : List Bool) → Sound m W g t → (q : ℕ) → Names (a_map r (held g n) (held g p)) q → get_or t q false ≡ true
map_stands m W g r n p t snd q h = elim (names-out h) [ inl f ↦ snd.held_stands n q f | inr f ↦ snd.held_stands p q f ]

layout_stands : (m : Meaning) (W : ℕ) (g : Graph) (c n : ℕ) → held g n ≡ object (position_of (held g n)) → (t : List Bool) → Sound m W g t → (q : ℕ) → Names (a_layout c (position_of (held g n))) q → get_or t q false ≡ true
layout_stands m W g c n e t snd q h = snd.held_stands n q (e ∙ ap object (names-out h))

record-stands : (m : Meaning) (W : ℕ) (g : Graph) (l : ℕ) → held g l ≡ object (position_of (held g l)) → (t : List Bool) → Sound m W g t → (q : ℕ) → Names (fresh_record m g (position_of (held g l)) (object_of g (held g l))) q → get_or t q false ≡ true
record-stands m W g l e t snd q h = snd.held_stands l q (e ∙ ap object (fresh-names m g (position_of (held g l)) (object_of g (held g l)) q h))

-- A new record's words.

fresh-word : (ref : ℕ → ℕ) (b : Bool) → field_word ref (fresh_cell b) ≡ 0
fresh-word ref true = refl
fresh-word ref false = refl

fresh-words : (ref : ℕ → ℕ) (m : Meaning) (r : ℕ) (xs : List ℕ) → map (field_word ref) (map (λ i. fresh_cell (is_raw m r i)) xs) ≡ replicate (length xs) 0
fresh-words ref m r [] = refl
fresh-words ref m r (x ∷ xs) = ap₂ {C = List ℕ} (λ w ws. w ∷ ws) (fresh-word ref (is_raw m r x)) (fresh-words ref m r xs)

many : (m : Meaning) (r c : ℕ) → length (fresh_cells m r c) ≡ c
many m r c = length-map-range_with_len (λ i. fresh_cell (is_raw m r i)) 0 c

record-words : (ref : ℕ → ℕ) (m : Meaning) (g : Graph) (q c n : ℕ) → object_words ref false (fresh_record m g q (a_layout c n)) ≡ (1 + 16 * (2 + c)) ∷ ref q ∷ replicate c 0
record-words ref m g q c n =
    let r = figure_of (object_at g n) in
    let long : length (fresh_cells m r c) ≡ c = many m r c in
    let k : length (range_with_len 0 c) ≡ c = sym (length-map (range_with_len 0 c) (λ i. fresh_cell (is_raw m r i))) ∙ long in
    let head : header false 0 (2 + length (fresh_cells m r c)) ≡ 1 + 16 * (2 + c) = omega (arith, long) in
    ap₂ {C = List ℕ} (λ (h : ℕ) (ws : List ℕ). h ∷ ref q ∷ ws) head (fresh-words ref m r (range_with_len 0 c) ∙ ap (λ (j : ℕ). replicate j 0) k)

pub fresh-size : (m : Meaning) (g : Graph) (q c n : ℕ) → size (fresh_record m g q (a_layout c n)) ≡ 2 + c
fresh-size m g q c n = ap (λ (j : ℕ). 2 + j) (many m (figure_of (object_at g n)) c)

-- the layout that a value is
layout_kind : (o : Object) → object_kind o ≡ 3 → o ≡ a_layout (figure_of o) (map_of o)
layout_kind (a_record l cells) k = absurd (omega arith)
layout_kind (a_layout c n) k = refl
layout_kind (a_map r a b) k = absurd (omega arith)

layout_of : (g : Graph) (x : Value) → kind_of g x ≡ 3 → object_of g x ≡ a_layout (figure_of (object_of g x)) (map_of (object_of g x))
layout_of g empty k = absurd (omega arith)
layout_of g (number z) k = absurd (omega arith)
layout_of g (object q) k = layout_kind (object_at g q) k

pub record-size : (m : Meaning) (g : Graph) (x : Value) (q : ℕ) → kind_of g x ≡ 3 → size (fresh_record m g q (object_of g x)) ≡ 2 + figure_of (object_of g x)
record-size m g x q k = ap (λ (y : Object). size (fresh_record m g q y)) (layout_of g x k) ∙ fresh-size m g q (figure_of (object_of g x)) (map_of (object_of g x))

-- what the code has put: a class, or a record, of n words at its place, and d names it
pub record ClassPut (v₁ v₂ : View) (d n : ℕ) (ws : List ℕ) : Type 0 where
  pub memory : v₂.words ≡ put v₁.words (v₁.high - n) ws
  pub handles : v₁.high - n < 16384 → v₂.handles ≡ set v₁.handles d ((v₁.high - n) * 4 + 3)
  pub low : v₂.low ≡ v₁.low
  pub high : v₂.high ≡ v₁.high - n
  pub limit : v₂.limit ≡ v₁.limit

pub record RecordPut (v₁ v₂ : View) (d n : ℕ) (ws : List ℕ) : Type 0 where
  pub memory : v₂.words ≡ put v₁.words v₁.low ws
  pub handles : v₁.low < 16384 → v₂.handles ≡ set v₁.handles d (v₁.low * 4 + 2)
  pub low : v₁.low < 16384 → v₂.low ≡ v₁.low + n
  pub high : v₂.high ≡ v₁.high
  pub limit : v₂.limit ≡ v₁.limit

-- The making calls on views. `v₁` is the heap once there is room, `v₂` the heap at the end.

module _ (m : Meaning) (v : View) (g : Graph) (s : List Bool) (st : Stands m v g s) (v₁ v₂ : View) (same : v₁.limit ≡ v.limit) (later : drop v.limit v₁.words ≡ drop v.limit v.words) where
  read₁ : (need h : ℕ) → Room m need v g s v₁ (Ok tt) → h < 32 → get_or v₁.handles h 0 ≡ value_word (reference v₁.limit g (cleared v.limit g s need)) (held g h)
  read₁ need h room l = read-handle m v₁.limit g (cleared v.limit g s need) v₁.words v₁.handles room.0.rests h l

  class-puts : (d : ℕ) (o : Object) (ref : ℕ → ℕ) (ws : List ℕ) → is_record o ≡ false → ws ≡ object_words ref false o → ClassPut v₁ v₂ d (size o) ws → Puts d o ref v₁ v₂
  class-puts d o ref ws e is put =
      record {
        place = v₁.high - size o;
        place_is = sym (cond-false _ _ _ e);
        new_words = ws;
        words_are = is;
        memory = put.memory;
        handles = λ l. put.handles l ∙ ap (λ (k : ℕ). set v₁.handles d ((v₁.high - size o) * 4 + k)) (sym (cond-false _ _ _ e));
        low = λ l. put.low ∙ sym (add-zero v₁.low) ∙ ap (λ (k : ℕ). v₁.low + k) (sym (cond-false _ _ _ e));
        high = put.high ∙ ap (λ (k : ℕ). v₁.high - k) (sym (cond-false _ _ _ e));
        limit = put.limit;
      }

  pub map-done : (d r n p : ℕ) → n < 32 → p < 32 → Passes (row m v.limit g (Map d r n p)).0 → Room m 5 v g s v₁ (Ok tt) → ClassPut v₁ v₂ d 5 (89 ∷ r ∷ get_or v₁.handles n 0 ∷ get_or v₁.handles p 0 ∷ 5 ∷ []) → Done m (Map d r n p) v g s v₂ (Ok (pos 0))
  map-done d r n p nl pl ok room put =
      made-done m (Map d r n p) v g s st v₁ same later d (a_map r (held g n) (held g p)) refl ok room (map_stands m v.limit g r n p) v₂
      (class-puts d (a_map r (held g n) (held g p)) _ _ refl (ap₂ {C = List ℕ} (λ (a b : ℕ). 89 ∷ r ∷ a ∷ b ∷ 5 ∷ []) (read₁ 5 n room nl) (read₁ 5 p room pl)) put)

  pub layout-done : (d c n : ℕ) → n < 32 → kind_of g (held g n) ≡ 4 → Passes (row m v.limit g (Layout d c n)).0 → Room m 4 v g s v₁ (Ok tt) → ClassPut v₁ v₂ d 4 (69 ∷ c ∷ get_or v₁.handles n 0 ∷ 4 ∷ []) → Done m (Layout d c n) v g s v₂ (Ok (pos 0))
  layout-done d c n nl k ok room put =
      let named = (kind-object m v.limit g s st.rests.sound (held g n) 4 (not_from_true _ (eq-eqb _ 4 k)) (omega arith)).0 in
      let ref = reference v₁.limit g (cleared v.limit g s 4) in
      made-done m (Layout d c n) v g s st v₁ same later d (a_layout c (position_of (held g n))) refl ok room (layout_stands m v.limit g c n named) v₂
      (class-puts d (a_layout c (position_of (held g n))) ref _ refl (ap {B = List ℕ} (λ (a : ℕ). 69 ∷ c ∷ a ∷ 4 ∷ []) (read₁ 4 n room nl ∙ ap (value_word ref) named)) put)

  record-puts : (d : ℕ) (o : Object) (ref : ℕ → ℕ) (ws : List ℕ) → is_record o ≡ true → ws ≡ object_words ref false o → RecordPut v₁ v₂ d (size o) ws → Puts d o ref v₁ v₂
  record-puts d o ref ws e is put =
      record {
        place = v₁.low;
        place_is = sym (cond-true _ _ _ e);
        new_words = ws;
        words_are = is;
        memory = put.memory;
        handles = λ l. put.handles l ∙ ap (λ (k : ℕ). set v₁.handles d (v₁.low * 4 + k)) (sym (cond-true _ _ _ e));
        low = λ l. put.low l ∙ ap (λ (k : ℕ). v₁.low + k) (sym (cond-true _ _ _ e));
        high = let z : cond (is_record o) 0 (size o) ≡ 0 = cond-true _ _ _ e in omega (arith, put.high, z);
        limit = put.limit;
      }

  pub record-done : (d l n : ℕ) → l < 32 → kind_of g (held g l) ≡ 3 → n ≡ 2 + figure_of (object_of g (held g l)) → Passes (row m v.limit g (Record d l)).0 → Room m n v g s v₁ (Ok tt) → RecordPut v₁ v₂ d n ((1 + 16 * n) ∷ get_or v₁.handles l 0 ∷ replicate (n - 2) 0) → Done m (Record d l) v g s v₂ (Ok (pos 0))
  record-done d l n ll k n-is ok room put =
      let x = held g l in
      let q = position_of x in
      let c = figure_of (object_of g x) in
      let named = (kind-object m v.limit g s st.rests.sound x 3 (not_from_true _ (eq-eqb _ 3 k)) (omega arith)).0 in
      let o : Object = fresh_record m g q (object_of g x) in
      let is-layout = layout_of g x k in
      let size_is : size o ≡ n = ap (λ (y : Object). size (fresh_record m g q y)) is-layout ∙ fresh-size m g q c (map_of (object_of g x)) ∙ sym n-is in
      let rec : is_record o ≡ true = ap (λ (y : Object). is_record (fresh_record m g q y)) is-layout in
      let room' : Room m (size o) v g s v₁ (Ok tt) = subst (λ (j : ℕ). Room m j v g s v₁ (Ok tt)) (sym size_is) room in
      let ref = reference v₁.limit g (cleared v.limit g s (size o)) in
      let w : get_or v₁.handles l 0 ≡ ref q = read₁ (size o) l room' ll ∙ ap (value_word ref) named in
      let fields : 2 + c - 2 ≡ c = omega arith in
      let ws : (1 + 16 * n) ∷ get_or v₁.handles l 0 ∷ replicate (n - 2) 0 ≡ object_words ref false o =
      ap₂ {C = List ℕ} (λ (j a : ℕ). (1 + 16 * j) ∷ a ∷ replicate (j - 2) 0) n-is w
      ∙ ap {B = List ℕ} (λ (j : ℕ). (1 + 16 * (2 + c)) ∷ ref q ∷ replicate j 0) fields
      ∙ sym (record-words ref m g q c (map_of (object_of g x)))
      ∙ ap (λ (y : Object). object_words ref false (fresh_record m g q y)) (sym is-layout)
      in
      made-done m (Record d l) v g s st v₁ same later d o refl ok room' (record-stands m v.limit g l named) v₂
      (record-puts d o ref _ rec ws (subst (λ (j : ℕ). RecordPut v₁ v₂ d j ((1 + 16 * n) ∷ get_or v₁.handles l 0 ∷ replicate (n - 2) 0)) (sym size_is) put))

-- the exit of a making call that finds no room
pub room-exits : {M S X : Type 0} (words : M → List ℕ) (meaning : S → Meaning) (c : Call) (h k : Heap M S) (f : X → ℤ) (need d : ℕ) (o : Graph → Object) (r : Result X Refusal) {e : Refusal} → IsErrAnd r (λ y. y ≡ e) → Rooms (meaning h.scheme) need (view words h) (view words k) (Err e) → k.scheme ≡ h.scheme → Alters (effect c (view words h)) (view words h) (Err e) (view words k)
    → ((g : Graph) (s : List Bool) → Stands (meaning h.scheme) (view words h) g s → ((row (meaning h.scheme) h.bounds.limit g c).1 ≡ makes d (o g)) × (size (o g) ≡ need) × Passes (row (meaning h.scheme) h.bounds.limit g c).0)
    → Meets words meaning c h k (outcome_of f r)
room-exits {M} {S} {X} words meaning c h k f need d o r {e} by rooms scheme alters made =
    let p = err_from_is_err_and r by in
    let m = meaning h.scheme in
    subst (λ (y : Result X Refusal). Meets words meaning c h k (outcome_of f y)) (sym (p.1 ∙ ap Err p.2))
    (record {
      follows =
          record {
            done = λ g s st.
                let a = made g s st in
                unmade-done m c (view words h) g s st (view words k) rooms.limit (rooms.later g s st) d (o g) e a.0 a.2
                (subst (λ (n : ℕ). Room m n (view words h) g s (view words k) (Err e)) (sym a.1) (rooms.room g s st));
            limit = rooms.limit;
          };
      alters = alters;
      scheme = scheme;
    })

-- What stands at the end of a making call, where there was room for its object.
pub class-alters : (v v₁ v₂ : View) (d n : ℕ) (ws : View → List ℕ) → ClassPut v₁ v₂ d n (ws v₁) → v₁ ≡ v → 0 < n → n ≤ v.high - v.low → v.high ≤ 16384 → v₂ ≡ with_class v d n (ws v)
class-alters v v₁ v₂ d n ws put same some room small =
    let high : v₁.high ≡ v.high = ap (λ (u : View). u.high) same in
    parts_same put.memory (put.handles (omega (arith, high))) put.low put.high put.limit ∙ ap (λ (u : View). with_class u d n (ws u)) same

pub record-alters : (v v₁ v₂ : View) (d n : ℕ) (ws : View → List ℕ) → RecordPut v₁ v₂ d n (ws v₁) → v₁ ≡ v → 0 < n → n ≤ v.high - v.low → v.high ≤ 16384 → v₂ ≡ with_record v d n (ws v)
record-alters v v₁ v₂ d n ws put same some room small =
    let low : v₁.low ≡ v.low = ap (λ (u : View). u.low) same in
    parts_same put.memory (put.handles (omega (arith, low))) (put.low (omega (arith, low))) put.high put.limit ∙ ap (λ (u : View). with_record u d n (ws u)) same

-- and of a record, by the words of before
pub fresh-alters : (v v₁ v₂ : View) (d l n : ℕ) → n ≡ record_words v l → RecordPut v₁ v₂ d n ((1 + 16 * n) ∷ get_or v₁.handles l 0 ∷ replicate (n - 2) 0) → (v.low + n ≤ v.high → v₁ ≡ v)
    → record_words v l ≤ v.high - v.low → v.high ≤ 16384 → v₂ ≡ with_record v d (record_words v l) (header false 0 (record_words v l) ∷ handle_word v l ∷ replicate (record_words v l - 2) 0)
fresh-alters v v₁ v₂ d l n e put same room small =
    let left : n ≤ v.high - v.low = omega (arith, e, room) in
    record-alters v v₁ v₂ d n (λ u. (1 + 16 * n) ∷ get_or u.handles l 0 ∷ replicate (n - 2) 0) put (same (omega (arith, e, left))) (omega (arith, e)) left small
    ∙ ap (λ (k : ℕ). with_record v d k ((1 + 16 * k) ∷ handle_word v l ∷ replicate (k - 2) 0)) e
