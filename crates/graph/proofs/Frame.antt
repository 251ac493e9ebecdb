-- The memory's words around one object: what is read of it, and what a write into it leaves.
use Rattle.std.proofs.Common.{◌≡◌, ℕ, zero, suc, ◌+◌, ◌-◌, ◌*◌, ◌<◌, ◌≤◌, Bool, true, false, cond, not, ◌&&◌, List, [], ◌∷◌, ◌++◌, length, get_or, take, drop, set, replicate, sym, refl, ap, ◌∙◌, ap₂, inl, inr, add-zero, arith, length-append, length-set}
use mathlib.Core.Path.{fun_ext}
use lib.ListN.{length-replicate}
use Rattle.std.proofs.lemmas.Bool.{false≢true, cases_Bool, cond-true, cond-false, cases_eq}
use Rattle.std.proofs.lemmas.List.{append_assoc, length-map, take_at, drop_at, get_or-append-add, get_or_append_left, set-append_left, set-append_right, get_or-set_same, get_or-set_other, map-set}
use Rattle.graph.specs.Graph.{Cell, Object, a_record, a_layout, a_map, Graph, object_at, change, size, is_record}
use Rattle.graph.specs.Step.{with_cell}
use Rattle.graph.specs.Reach.{total, chosen_size, words_of}
use Rattle.graph.specs.Words.{upward, downward, record_stands, class_stands, record_size, class_size, place_of, between, reference, header, header_kind, field_word, body_words, object_words, words_at, record_words, class_words, image}
use Rattle.graph.proofs.Piles.{Alike, upward-same, downward-same, length-upward, length-downward, upward-frame, downward-frame}

-- Graphs of one shape have their objects in the same places.

pub record Shaped (g g' : Graph) : Type 0 where
  pub many : length g'.objects ≡ length g.objects
  pub side : (j : ℕ) → is_record (object_at g' j) ≡ is_record (object_at g j)
  pub sized : (j : ℕ) → size (object_at g' j) ≡ size (object_at g j)

module _ (W : ℕ) (g g' : Graph) (s : List Bool) (like : Shaped g g') where
  pub same-record_size : record_size g' s ≡ record_size g s
  same-record_size = fun_ext λ j. ap₂ (λ (b : Bool) (n : ℕ). cond (get_or s j false && b) n 0) (like.side j) (like.sized j)

  pub same-class_size : class_size g' s ≡ class_size g s
  same-class_size = fun_ext λ j. ap₂ (λ (b : Bool) (n : ℕ). cond (get_or s j false && not b) n 0) (like.side j) (like.sized j)

  pub same_place : (q : ℕ) → place_of W g' s q ≡ place_of W g s q
  same_place q =
      ap₂ (λ (b : Bool) (f : ℕ → ℕ). cond b (total f q) (W - total (class_size g' s) (suc q))) (like.side q) same-record_size
      ∙ ap (λ (f : ℕ → ℕ). cond (is_record (object_at g q)) (total (record_size g s) q) (W - total f (suc q))) same-class_size

  pub same-reference : reference W g' s ≡ reference W g s
  same-reference = fun_ext λ q. ap₂ (λ (p : ℕ) (b : Bool). p * 4 + cond b 2 3) (same_place q) (like.side q)

  pub same-between : between W g' s ≡ between W g s
  same-between =
      let f : chosen_size g' s ≡ chosen_size g s = fun_ext λ j. ap (λ (n : ℕ). cond (get_or s j false) n 0) (like.sized j) in
      ap₂ (λ (f : ℕ → ℕ) (n : ℕ). W - total f n) f like.many

-- An object's words are as many as its size.

pub length-object_words : (ref : ℕ → ℕ) (k : Bool) (o : Object) → length (object_words ref k o) ≡ size o
length-object_words ref k (a_record l cells) = omega (arith, length-map cells (field_word ref))
length-object_words ref k (a_layout c m) = refl
length-object_words ref k (a_map r n p) = refl

length-cond : (b : Bool) (xs : List ℕ) (n : ℕ) → length xs ≡ n → length (cond b xs []) ≡ cond b n 0
length-cond true xs n e = e
length-cond false xs n e = refl

pub block_on : (x b : Bool) (xs : List ℕ) → x ≡ true → b ≡ true → cond (x && b) xs [] ≡ xs
block_on x b xs e f = rw (e, f)

pub block-off : (x b : Bool) (xs : List ℕ) → b ≡ false → cond (x && b) xs [] ≡ []
block-off true b xs f = rw f
block-off false b xs f = refl

module _ (W : ℕ) (g : Graph) (s m : List Bool) where
  pub length-record_words : (q : ℕ) → length (record_words W g s m q) ≡ record_size g s q
  length-record_words q = length-cond (record_stands g s q) _ _ (length-object_words (reference W g s) (get_or m q false) (object_at g q))

  pub length-class_words : (q : ℕ) → length (class_words W g s m q) ≡ class_size g s q
  length-class_words q = length-cond (class_stands g s q) _ _ (length-object_words (reference W g s) (get_or m q false) (object_at g q))

-- the words of the two sides together
chosen-sides : (x b : Bool) (n : ℕ) → cond (x && b) n 0 + cond (x && not b) n 0 ≡ cond x n 0
chosen-sides true true n = omega arith
chosen-sides true false n = omega arith
chosen-sides false b n = refl

pub total-sides : (g : Graph) (s : List Bool) (n : ℕ) → total (record_size g s) n + total (class_size g s) n ≡ total (chosen_size g s) n
total-sides g s zero = refl
total-sides g s (suc n) = let h = total-sides g s n in omega (arith, chosen-sides (get_or s n false) (is_record (object_at g n)) (size (object_at g n)))

pub length-image : (W : ℕ) (g : Graph) (s m : List Bool) → words_of g s ≤ W → length (image W g s m) ≡ W
length-image W g s m fits =
    let n = length g.objects in
    let l = length-upward (record_words W g s m) (record_size g s) (length-record_words W g s m) n in
    let r = length-downward (class_words W g s m) (class_size g s) (length-class_words W g s m) n in
    let z = length-replicate {A = ℕ} (between W g s) 0 in
    let a = length-append (upward (record_words W g s m) n) (replicate (between W g s) 0 ++ downward (class_words W g s m) n) in
    let b = length-append (replicate (between W g s) 0) (downward (class_words W g s m) n) in
    omega (arith, a, b, l, r, z, fits, total-sides g s n)

-- A part in the middle of a list.

pub mid-take : (a b c : List ℕ) (p n : ℕ) → length a ≡ p → length b ≡ n → take n (drop p (a ++ (b ++ c))) ≡ b
mid-take a b c p n e f = ap (take n) (drop_at a (b ++ c) p e) ∙ take_at b c n f

pub mid-get : (a b c : List ℕ) (p i : ℕ) → length a ≡ p → i < length b → get_or (a ++ (b ++ c)) (p + i) 0 ≡ get_or b i 0
mid-get a b c p i e l = rw (← e) (get_or-append-add a (b ++ c) i 0 ∙ get_or_append_left b c 0 i l)

pub mid-set : (a b c : List ℕ) (p i w : ℕ) → length a ≡ p → i < length b → set (a ++ (b ++ c)) (p + i) w ≡ a ++ (set b i w ++ c)
mid-set a b c p i w e l =
    let k : p + i - p ≡ i = omega arith in
    set-append_right a (b ++ c) p (p + i) w e (omega arith)
    ∙ ap (λ (j : ℕ). a ++ set (b ++ c) j w) k
    ∙ ap (λ (xs : List ℕ). a ++ xs) (set-append_left b c i w l)

-- The words before and behind object q, and between them those of q, whatever they are.

pub record Around (W : ℕ) (g : Graph) (s m : List Bool) (q : ℕ) : Type 0 where
  pub before : List ℕ
  pub behind : List ℕ
  pub at : length before ≡ place_of W g s q
  pub is : (g' : Graph) (m' : List Bool) → Shaped g g' → ((j : ℕ) → (j ≡ q → ⊥) → words_at W g' s m' j ≡ words_at W g s m j) → image W g' s m' ≡ before ++ (words_at W g' s m' q ++ behind)

module _ (W : ℕ) (g : Graph) (s m : List Bool) (q : ℕ) (g' : Graph) (m' : List Bool) (like : Shaped g g') (others : (j : ℕ) → (j ≡ q → ⊥) → words_at W g' s m' j ≡ words_at W g s m j) where
  image-shaped : image W g' s m' ≡ upward (record_words W g' s m') (length g.objects) ++ (replicate (between W g s) 0 ++ downward (class_words W g' s m') (length g.objects))
  image-shaped =
      ap₂ (λ (n z : ℕ). upward (record_words W g' s m') n ++ (replicate z 0 ++ downward (class_words W g' s m') n)) like.many (same-between W g g' s like)

  records-alike : Alike q (record_words W g s m) (record_words W g' s m')
  unfolding Alike
  records-alike j ne = ap₂ (λ (b : Bool) (xs : List ℕ). cond (get_or s j false && b) xs []) (like.side j) (others j ne)

  classes-alike : Alike q (class_words W g s m) (class_words W g' s m')
  unfolding Alike
  classes-alike j ne = ap₂ (λ (b : Bool) (xs : List ℕ). cond (get_or s j false && not b) xs []) (like.side j) (others j ne)

  -- the side that q is not on
  same-classes : is_record (object_at g q) ≡ true → (j : ℕ) → class_words W g' s m' j ≡ class_words W g s m j
  unfolding Alike
  same-classes e j =
      elim (cases_eq j q) [
        | inl f ↦ rw f (block-off _ _ _ (ap not (like.side q ∙ e)) ∙ sym (block-off _ _ _ (ap not e)))
        | inr ne ↦ classes-alike j ne
      ]

  same-records : is_record (object_at g q) ≡ false → (j : ℕ) → record_words W g' s m' j ≡ record_words W g s m j
  unfolding Alike
  same-records e j =
      elim (cases_eq j q) [
        | inl f ↦ rw f (block-off _ _ _ (like.side q ∙ e) ∙ sym (block-off _ _ _ e))
        | inr ne ↦ records-alike j ne
      ]

  module _ (here : get_or s q false ≡ true) (t : List ℕ) where
    record_is : is_record (object_at g q) ≡ true → upward (record_words W g' s m') (length g.objects) ≡ upward (record_words W g s m) q ++ (record_words W g' s m' q ++ t) → image W g' s m' ≡ upward (record_words W g s m) q ++ (words_at W g' s m' q ++ (t ++ (replicate (between W g s) 0 ++ downward (class_words W g s m) (length g.objects))))
    record_is e up =
        let on = block_on (get_or s q false) (is_record (object_at g' q)) (words_at W g' s m' q) here (like.side q ∙ e) in
        let down = downward-same (class_words W g s m) (class_words W g' s m') (length g.objects) (λ j l. same-classes e j) in
        image-shaped
        ∙ ap₂ (λ (u d : List ℕ). u ++ (replicate (between W g s) 0 ++ d)) (up ∙ ap (λ (b : List ℕ). upward (record_words W g s m) q ++ (b ++ t)) on) down
        ∙ simp append_assoc

    class-is : is_record (object_at g q) ≡ false → downward (class_words W g' s m') (length g.objects) ≡ t ++ (class_words W g' s m' q ++ downward (class_words W g s m) q) → image W g' s m' ≡ (upward (record_words W g s m) (length g.objects) ++ (replicate (between W g s) 0 ++ t)) ++ (words_at W g' s m' q ++ downward (class_words W g s m) q)
    class-is e down =
        let on = block_on (get_or s q false) (not (is_record (object_at g' q))) (words_at W g' s m' q) here (ap not (like.side q ∙ e)) in
        let up = upward-same (record_words W g s m) (record_words W g' s m') (length g.objects) (λ j l. same-records e j) in
        image-shaped
        ∙ ap₂ (λ (u d : List ℕ). u ++ (replicate (between W g s) 0 ++ d)) up (down ∙ ap (λ (b : List ℕ). t ++ (b ++ downward (class_words W g s m) q)) on)
        ∙ simp append_assoc

alike_self : (W : ℕ) (g : Graph) → Shaped g g
alike_self W g = record { many = refl; side = λ j. refl; sized = λ j. refl }

module _ (W : ℕ) (g : Graph) (s m : List Bool) (fits : words_of g s ≤ W) (q : ℕ) (lt : q < length g.objects) (here : get_or s q false ≡ true) where
  record-around : is_record (object_at g q) ≡ true → Around W g s m q
  record-around e =
      let n = length g.objects in
      let r = upward-frame (record_words W g s m) n q lt in
      record {
        before = upward (record_words W g s m) q;
        behind = r.0 ++ (replicate (between W g s) 0 ++ downward (class_words W g s m) n);
        at = length-upward (record_words W g s m) (record_size g s) (length-record_words W g s m) q ∙ sym (cond-true _ _ _ e);
        is = λ g' m' like others. record_is W g s m q g' m' like others here r.0 e (r.1 (record_words W g' s m') (records-alike W g s m q g' m' like others));
      }

  -- where the words before a class end
  class-at : (t : List ℕ) → is_record (object_at g q) ≡ false → downward (class_words W g s m) (length g.objects) ≡ t ++ (class_words W g s m q ++ downward (class_words W g s m) q) → length (upward (record_words W g s m) (length g.objects) ++ (replicate (between W g s) 0 ++ t)) ≡ place_of W g s q
  class-at t e split =
      let n = length g.objects in
      let f = class_words W g s m in
      let l = length-upward (record_words W g s m) (record_size g s) (length-record_words W g s m) n in
      let z = length-replicate {A = ℕ} (between W g s) 0 in
      let rn = length-downward f (class_size g s) (length-class_words W g s m) n in
      let rq = length-downward f (class_size g s) (length-class_words W g s m) q in
      let here-size = length-class_words W g s m q in
      let a = length-append (upward (record_words W g s m) n) (replicate (between W g s) 0 ++ t) in
      let b = length-append (replicate (between W g s) 0) t in
      let c = ap length split in
      let d = length-append t (f q ++ downward f q) in
      let k = length-append (f q) (downward f q) in
      let place : place_of W g s q ≡ W - total (class_size g s) (suc q) = cond-false _ _ _ e in
      omega (arith, a, b, c, d, k, l, z, rn, rq, here-size, place, fits, total-sides g s n)

  class-around : is_record (object_at g q) ≡ false → Around W g s m q
  unfolding Alike
  class-around e =
      let n = length g.objects in
      let r = downward-frame (class_words W g s m) n q lt in
      record {
        before = upward (record_words W g s m) n ++ (replicate (between W g s) 0 ++ r.0);
        behind = downward (class_words W g s m) q;
        at = class-at r.0 e (r.1 (class_words W g s m) (λ j ne. refl));
        is = λ g' m' like others. class-is W g s m q g' m' like others here r.0 e (r.1 (class_words W g' s m') (classes-alike W g s m q g' m' like others));
      }

  pub around : Around W g s m q
  around = elim (cases_Bool (is_record (object_at g q))) [ inl e ↦ record-around e | inr e ↦ class-around e ]

  whole : image W g s m ≡ around.before ++ (words_at W g s m q ++ around.behind)
  whole = around.is g m (alike_self W g) (λ j ne. refl)

  words-length : length (words_at W g s m q) ≡ size (object_at g q)
  words-length = length-object_words (reference W g s) (get_or m q false) (object_at g q)

  -- the words of a standing object stand at its place
  pub read-object : take (size (object_at g q)) (drop (place_of W g s q) (image W g s m)) ≡ words_at W g s m q
  read-object =
      ap (λ (xs : List ℕ). take (size (object_at g q)) (drop (place_of W g s q) xs)) whole
      ∙ mid-take around.before (words_at W g s m q) around.behind (place_of W g s q) (size (object_at g q)) around.at words-length

  -- and one by one
  pub read_word : (i : ℕ) → i < size (object_at g q) → get_or (image W g s m) (place_of W g s q + i) 0 ≡ get_or (words_at W g s m q) i 0
  read_word i l =
      ap (λ (xs : List ℕ). get_or xs (place_of W g s q + i) 0) whole
      ∙ mid-get around.before (words_at W g s m q) around.behind (place_of W g s q) i around.at (omega (arith, words-length, l))

  -- a word written into it: the image of the graph and the marks that have this word there and are alike elsewhere
  pub write_word : (i w : ℕ) (g' : Graph) (m' : List Bool) → i < size (object_at g q) → Shaped g g' → ((j : ℕ) → (j ≡ q → ⊥) → words_at W g' s m' j ≡ words_at W g s m j) → words_at W g' s m' q ≡ set (words_at W g s m q) i w → set (image W g s m) (place_of W g s q + i) w ≡ image W g' s m'
  write_word i w g' m' l like others e =
      ap (λ (xs : List ℕ). set xs (place_of W g s q + i) w) whole
      ∙ mid-set around.before (words_at W g s m q) around.behind (place_of W g s q) i w around.at (omega (arith, words-length, l))
      ∙ ap (λ (b : List ℕ). around.before ++ (b ++ around.behind)) (sym e)
      ∙ sym (around.is g' m' like others)

pub size-pos : (o : Object) → 0 < size o
size-pos (a_record l cells) = omega arith
size-pos (a_layout c m) = omega arith
size-pos (a_map r n p) = omega arith

-- A record with another cell.

pub with-side : (o : Object) (i : ℕ) (x : Cell) → is_record (with_cell o i x) ≡ is_record o
with-side (a_record l cells) i x = refl
with-side (a_layout c m) i x = refl
with-side (a_map r n p) i x = refl

pub with_size : (o : Object) (i : ℕ) (x : Cell) → size (with_cell o i x) ≡ size o
with_size (a_record l cells) i x = ap (λ (n : ℕ). 2 + n) (length-set cells i x)
with_size (a_layout c m) i x = refl
with_size (a_map r n p) i x = refl

with-words : (ref : ℕ → ℕ) (k : Bool) (o : Object) (i : ℕ) (x : Cell) → is_record o ≡ true → object_words ref k (with_cell o i x) ≡ set (object_words ref k o) (2 + i) (field_word ref x)
with-words ref k (a_record l cells) i x e =
    let two : 2 + i ≡ suc (suc i) = omega arith in
    rw two (ap₂ (λ (n : ℕ) (ws : List ℕ). header k 0 (2 + n) ∷ ref l ∷ ws) (length-set cells i x) (map-set (field_word ref) cells i x))
with-words ref k (a_layout c m) i x e = absurd (false≢true e)
with-words ref k (a_map r n p) i x e = absurd (false≢true e)

module _ (g : Graph) (q : ℕ) (lt : q < length g.objects) (i : ℕ) (x : Cell) where
  abbrev pub written : Graph
  written = change g q (with_cell (object_at g q) i x)

  pub written-here : object_at written q ≡ with_cell (object_at g q) i x
  written-here = get_or-set_same g.objects q _ _ lt

  pub written-other : (j : ℕ) → (j ≡ q → ⊥) → object_at written j ≡ object_at g j
  written-other j ne = get_or-set_other g.objects q j _ _ ne

  pub written-shaped : Shaped g written
  written-shaped =
      record {
        many = length-set g.objects q _;
        side = λ j. elim (cases_eq j q) [ inl e ↦ rw e (ap is_record written-here ∙ with-side (object_at g q) i x) | inr ne ↦ ap is_record (written-other j ne) ];
        sized = λ j. elim (cases_eq j q) [ inl e ↦ rw e (ap size written-here ∙ with_size (object_at g q) i x) | inr ne ↦ ap size (written-other j ne) ];
      }

-- a field's word written into a standing record
module _ (W : ℕ) (g : Graph) (s m : List Bool) (fits : words_of g s ≤ W) (q : ℕ) (lt : q < length g.objects) (here : get_or s q false ≡ true) where
  pub write-field : (i : ℕ) (x : Cell) → is_record (object_at g q) ≡ true → 2 + i < size (object_at g q) → set (image W g s m) (place_of W g s q + (2 + i)) (field_word (reference W g s) x) ≡ image W (written g q lt i x) s m
  write-field i x e l =
      let g' = written g q lt i x in
      let ref = same-reference W g g' s (written-shaped g q lt i x) in
      write_word W g s m fits q lt here (2 + i) (field_word (reference W g s) x) g' m l (written-shaped g q lt i x)
      (λ j ne. ap₂ (λ (r : ℕ → ℕ) (o : Object). object_words r (get_or m j false) o) ref (written-other g q lt i x j ne))
      (ap₂ (λ (r : ℕ → ℕ) (o : Object). object_words r (get_or m q false) o) ref (written-here g q lt i x)
      ∙ with-words (reference W g s) (get_or m q false) (object_at g q) i x e)

  -- a mark set on a standing object
  pub write-mark : (w : ℕ) → q < length m → w ≡ header true (header_kind (object_at g q)) (size (object_at g q)) → set (image W g s m) (place_of W g s q) w ≡ image W g s (set m q true)
  write-mark w lm e =
      ap (λ (p : ℕ). set (image W g s m) p w) (sym (add-zero (place_of W g s q)))
      ∙ write_word W g s m fits q lt here 0 w g (set m q true) (size-pos (object_at g q)) (alike_self W g)
      (λ j ne. ap (λ (b : Bool). object_words (reference W g s) b (object_at g j)) (get_or-set_other m q j true false ne))
      (ap (λ (b : Bool). object_words (reference W g s) b (object_at g q)) (get_or-set_same m q true false lm)
      ∙ ap (λ (h : ℕ). h ∷ body_words (reference W g s) (object_at g q)) (sym e))
