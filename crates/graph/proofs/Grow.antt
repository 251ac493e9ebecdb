-- A new object: the words of the older ones stay, and the new one's stand innermost on its side.
use Rattle.std.proofs.Common.{◌≡◌, ℕ, zero, suc, ◌+◌, ◌-◌, ◌*◌, ◌<◌, ◌≤◌, Bool, true, false, cond, not, ◌&&◌, List, [], ◌∷◌, ◌++◌, map, length, get_or, set, replicate, sym, refl, ap, ◌∙◌, subst, ap₂, inl, inr, arith, length-append}
use lib.ListN.{length-replicate}
use Rattle.std.proofs.lemmas.Bool.{cases_Bool, cond-true, cond-false}
use Rattle.std.proofs.lemmas.List.{append-nil, append_assoc, get_or_append_left, get_or_push, length_push, map-set, set_at, nil_from_length, replicate-append-replicate}
use Rattle.graph.specs.Graph.{Value, empty, number, object, Cell, raw, value, Object, a_record, a_layout, a_map, Graph, held, object_at, make, size, is_record}
use Rattle.graph.specs.Reach.{Names, its_layout, its_field, its_map, its_name, its_parent, total, chosen_size, words_of}
use Rattle.graph.specs.Words.{upward, downward, record_size, class_size, place_of, between, low_end, high_end, reference, header, header_kind, value_word, field_word, body_words, object_words, words_at, record_words, class_words, image, handle_words, put}
use Rattle.graph.proofs.Piles.{upward-same, downward-same, length-upward}
use Rattle.graph.proofs.Frame.{length-object_words, block_on, block-off, length-record_words, total-sides}

-- An object's words speak of what it names.

module _ (ref ref' : ℕ → ℕ) where
  value_same : (v : Value) → ((q : ℕ) → v ≡ object q → ref' q ≡ ref q) → value_word ref' v ≡ value_word ref v
  value_same empty h = refl
  value_same (number n) h = refl
  value_same (object q) h = h q refl

  cells_same : (cells : List Cell) → ((i q : ℕ) → get_or cells i (raw 0) ≡ value (object q) → ref' q ≡ ref q) → map (field_word ref') cells ≡ map (field_word ref) cells
  cells_same [] h = refl
  cells_same (raw w ∷ cells) h = ap {B = List ℕ} (λ ws. w ∷ ws) (cells_same cells (λ i q e. h (suc i) q e))
  cells_same (value v ∷ cells) h = ap₂ {C = List ℕ} (λ w ws. w ∷ ws) (value_same v (λ q e. h 0 q (ap value e))) (cells_same cells (λ i q e. h (suc i) q e))

  pub body_same : (o : Object) → ((q : ℕ) → Names o q → ref' q ≡ ref q) → body_words ref' o ≡ body_words ref o
  body_same (a_record l cells) h = ap₂ {C = List ℕ} (λ w ws. w ∷ ws) (h l its_layout) (cells_same cells (λ i q e. h q (its_field i e)))
  body_same (a_layout c m) h = ap {B = List ℕ} (λ w. c ∷ w ∷ 4 ∷ []) (h m its_map)
  body_same (a_map r n p) h =
      ap₂ {C = List ℕ} (λ v w. r ∷ v ∷ w ∷ 5 ∷ [])
      (value_same n (λ q e. h q (subst (λ (x : Value). Names (a_map r x p) q) (sym e) its_name)))
      (value_same p (λ q e. h q (subst (λ (x : Value). Names (a_map r n x) q) (sym e) its_parent)))

-- what an object names stands below n
unfoldable pub Within : ℕ → Object → Type 0
Within n o = (q : ℕ) → Names o q → q < n

pub total-same : (f f' : ℕ → ℕ) (n : ℕ) → ((j : ℕ) → j < n → f' j ≡ f j) → total f' n ≡ total f n
total-same f f' zero h = refl
total-same f f' (suc n) h = ap₂ ◌+◌ (total-same f f' n (λ j l. h j (omega arith))) (h n (omega arith))

-- Two graphs that are alike below n.

module _ (W : ℕ) (g g' : Graph) (s s' : List Bool) (n : ℕ) (objects : (j : ℕ) → j < n → object_at g' j ≡ object_at g j) (standing : (j : ℕ) → j < n → get_or s' j false ≡ get_or s j false) where
  pub below-record_size : (j : ℕ) → j < n → record_size g' s' j ≡ record_size g s j
  below-record_size j l = ap₂ (λ (b : Bool) (o : Object). cond (b && is_record o) (size o) 0) (standing j l) (objects j l)

  pub below-class_size : (j : ℕ) → j < n → class_size g' s' j ≡ class_size g s j
  below-class_size j l = ap₂ (λ (b : Bool) (o : Object). cond (b && not (is_record o)) (size o) 0) (standing j l) (objects j l)

  below-place : (q : ℕ) → q < n → place_of W g' s' q ≡ place_of W g s q
  below-place q l =
      ap (λ (o : Object). cond (is_record o) (total (record_size g' s') q) (W - total (class_size g' s') (suc q))) (objects q l)
      ∙ ap₂ (λ (a b : ℕ). cond (is_record (object_at g q)) a (W - b))
      (total-same (record_size g s) (record_size g' s') q (λ j k. below-record_size j (omega arith)))
      (total-same (class_size g s) (class_size g' s') (suc q) (λ j k. below-class_size j (omega arith)))

  pub below-reference : (q : ℕ) → q < n → reference W g' s' q ≡ reference W g s q
  below-reference q l = ap₂ (λ (p : ℕ) (o : Object). p * 4 + cond (is_record o) 2 3) (below-place q l) (objects q l)

  module _ (m : List Bool) (within : (j : ℕ) → j < n → Within n (object_at g j)) where
    below-words : (q : ℕ) → q < n → words_at W g' s' m q ≡ words_at W g s m q
    unfolding Within
    below-words q l =
        ap (λ (o : Object). object_words (reference W g' s') (get_or m q false) o) (objects q l)
        ∙ ap {B = List ℕ} (λ ws. header (get_or m q false) (header_kind (object_at g q)) (size (object_at g q)) ∷ ws)
        (body_same (reference W g s) (reference W g' s') (object_at g q) (λ p named. below-reference p (within q l p named)))

    below-upward : upward (record_words W g' s' m) n ≡ upward (record_words W g s m) n
    below-upward =
        upward-same (record_words W g s m) (record_words W g' s' m) n λ j l.
        ap₂ (λ (b : Bool) (ws : List ℕ). cond b ws []) (ap₂ (λ (b : Bool) (o : Object). b && is_record o) (standing j l) (objects j l)) (below-words j l)

    below-downward : downward (class_words W g' s' m) n ≡ downward (class_words W g s m) n
    below-downward =
        downward-same (class_words W g s m) (class_words W g' s' m) n λ j l.
        ap₂ (λ (b : Bool) (ws : List ℕ). cond b ws []) (ap₂ (λ (b : Bool) (o : Object). b && not (is_record o)) (standing j l) (objects j l)) (below-words j l)

-- Words written one after another.

pub mid-put : (ws a b c : List ℕ) (p : ℕ) → length a ≡ p → length b ≡ length ws → put (a ++ (b ++ c)) p ws ≡ a ++ (ws ++ c)
mid-put [] a b c p e f = ap (λ (xs : List ℕ). a ++ (xs ++ c)) (nil_from_length b f)
mid-put (w ∷ ws) a [] c p e f = absurd (omega arith)
mid-put (w ∷ ws) a (x ∷ b) c p e f =
    ap (λ (xs : List ℕ). put xs (suc p) ws) (set_at a x (b ++ c) w p e ∙ sym (append_assoc a (w ∷ []) (b ++ c)))
    ∙ mid-put ws (a ++ (w ∷ [])) b c (suc p) (omega (arith, length_push a w)) (omega arith)
    ∙ append_assoc a (w ∷ []) (ws ++ c)

-- The memory with a new object.

zeros-split : (z k : ℕ) → k ≤ z → replicate {A = ℕ} z 0 ≡ replicate k 0 ++ replicate (z - k) 0
zeros-split z k l = let e : z ≡ k + (z - k) = omega arith in ap (λ (n : ℕ). replicate {A = ℕ} n 0) e ∙ sym (replicate-append-replicate k (z - k) 0)

zeros-split-end : (z k : ℕ) → k ≤ z → replicate {A = ℕ} z 0 ≡ replicate (z - k) 0 ++ replicate k 0
zeros-split-end z k l = let e : z ≡ z - k + k = omega arith in ap (λ (n : ℕ). replicate {A = ℕ} n 0) e ∙ sym (replicate-append-replicate (z - k) k 0)

pub length_more : {A : Type 0} (xs : List A) (y : A) → length (xs ++ (y ∷ [])) ≡ suc (length xs)
length_more xs y = omega (arith, length_push xs y)

module _ (W : ℕ) (g : Graph) (s : List Bool) (d : ℕ) (o : Object) (fits : words_of g s + size o ≤ W) (as_long : length s ≡ length g.objects) (within : (j : ℕ) → j < length g.objects → Within (length g.objects) (object_at g j)) (here : Within (length g.objects) o) where
  abbrev n : ℕ
  n = length g.objects

  abbrev g' : Graph
  g' = make g d o

  abbrev s' : List Bool
  s' = s ++ (true ∷ [])

  pub old-objects : (j : ℕ) → j < n → object_at g' j ≡ object_at g j
  old-objects j l = get_or_append_left g.objects (o ∷ []) (a_map 0 empty empty) j l

  pub old-standing : (j : ℕ) → j < n → get_or s' j false ≡ get_or s j false
  old-standing j l = get_or_append_left s (true ∷ []) false j (omega arith)

  pub new-object : object_at g' n ≡ o
  new-object = get_or_push g.objects o (a_map 0 empty empty) n refl

  pub new-standing : get_or s' n false ≡ true
  new-standing = get_or_push s true false n as_long

  -- the new object's words are as the older places give them
  new_words : words_at W g' s' [] n ≡ object_words (reference W g s) false o
  unfolding Within
  new_words =
      ap (λ (x : Object). object_words (reference W g' s') false x) new-object
      ∙ ap {B = List ℕ} (λ ws. header false (header_kind o) (size o) ∷ ws)
      (body_same (reference W g s) (reference W g' s') o (λ p named. below-reference W g g' s s' n old-objects old-standing p (here p named)))

  new-size : chosen_size g' s' n ≡ size o
  new-size = ap₂ (λ (b : Bool) (x : Object). cond b (size x) 0) new-standing new-object

  new-between : between W g' s' ≡ between W g s - size o
  new-between =
      ap (λ (k : ℕ). W - total (chosen_size g' s') k) (length_more g.objects o)
      ∙ ap₂ (λ (a b : ℕ). W - (a + b)) (total-same (chosen_size g s) (chosen_size g' s') n (λ j l. ap₂ (λ (b : Bool) (x : Object). cond b (size x) 0) (old-standing j l) (old-objects j l))) new-size
      ∙ omega arith

  -- both sides, with what is new on each
  new-image : image W g' s' [] ≡ (upward (record_words W g s []) n ++ record_words W g' s' [] n) ++ (replicate (between W g s - size o) 0 ++ (class_words W g' s' [] n ++ downward (class_words W g s []) n))
  new-image =
      ap₂ (λ (k z : ℕ). upward (record_words W g' s' []) k ++ (replicate z 0 ++ downward (class_words W g' s' []) k)) (length_more g.objects o) new-between
      ∙ ap₂ (λ (u w : List ℕ). (u ++ record_words W g' s' [] n) ++ (replicate (between W g s - size o) 0 ++ (class_words W g' s' [] n ++ w)))
      (below-upward W g g' s s' n old-objects old-standing [] within)
      (below-downward W g g' s s' n old-objects old-standing [] within)

  record-allocated : is_record o ≡ true → image W g' s' [] ≡ put (image W g s []) (place_of W g' s' n) (object_words (reference W g s) false o)
  record-allocated e =
      let e' : is_record (object_at g' n) ≡ true = ap is_record new-object ∙ e in
      let U = upward (record_words W g s []) n in
      let D = downward (class_words W g s []) n in
      let z = between W g s in
      let ws = object_words (reference W g s) false o in
      let on : record_words W g' s' [] n ≡ ws = block_on _ _ _ new-standing e' ∙ new_words in
      let off : class_words W g' s' [] n ≡ [] = block-off _ _ _ (ap not e') in
      let place : length U ≡ place_of W g' s' n =
      length-upward (record_words W g s []) (record_size g s) (length-record_words W g s []) n
      ∙ sym (total-same (record_size g s) (record_size g' s') n (below-record_size W g g' s s' n old-objects old-standing))
      ∙ sym (cond-true _ _ _ e')
      in
      new-image
      ∙ ap₂ (λ (a b : List ℕ). (U ++ a) ++ (replicate (z - size o) 0 ++ (b ++ D))) on off
      ∙ append_assoc U ws (replicate (z - size o) 0 ++ D)
      ∙ sym (mid-put ws U (replicate (size o) 0) (replicate (z - size o) 0 ++ D) (place_of W g' s' n) place (length-replicate {A = ℕ} (size o) 0 ∙ sym (length-object_words (reference W g s) false o)))
      ∙ ap (λ (xs : List ℕ). put (U ++ xs) (place_of W g' s' n) ws) (sym (append_assoc (replicate (size o) 0) (replicate (z - size o) 0) D) ∙ ap (λ (zs : List ℕ). zs ++ D) (sym (zeros-split z (size o) (omega arith))))

  class-place : is_record o ≡ false → length (upward (record_words W g s []) n ++ replicate (between W g s - size o) 0) ≡ place_of W g' s' n
  class-place e =
      let e' : is_record (object_at g' n) ≡ false = ap is_record new-object ∙ e in
      let a = length-append (upward (record_words W g s []) n) (replicate (between W g s - size o) 0) in
      let b = length-replicate {A = ℕ} (between W g s - size o) 0 in
      let u = length-upward (record_words W g s []) (record_size g s) (length-record_words W g s []) n in
      let c = total-same (class_size g s) (class_size g' s') n (below-class_size W g g' s s' n old-objects old-standing) in
      let new : class_size g' s' n ≡ size o = ap₂ (λ (x y : Bool). cond (x && not y) (size (object_at g' n)) 0) new-standing e' ∙ ap size new-object in
      let at : place_of W g' s' n ≡ W - (total (class_size g' s') n + class_size g' s' n) = cond-false _ _ _ e' in
      omega (arith, a, b, u, c, new, at, total-sides g s n, fits)

  class-allocated : is_record o ≡ false → image W g' s' [] ≡ put (image W g s []) (place_of W g' s' n) (object_words (reference W g s) false o)
  class-allocated e =
      let e' : is_record (object_at g' n) ≡ false = ap is_record new-object ∙ e in
      let U = upward (record_words W g s []) n in
      let D = downward (class_words W g s []) n in
      let z = between W g s in
      let ws = object_words (reference W g s) false o in
      let on : class_words W g' s' [] n ≡ ws = block_on _ _ _ new-standing (ap not e') ∙ new_words in
      let off : record_words W g' s' [] n ≡ [] = block-off _ _ _ e' in
      let before = U ++ replicate (z - size o) 0 in
      let place : length before ≡ place_of W g' s' n = class-place e in
      new-image
      ∙ ap₂ (λ (a b : List ℕ). (U ++ a) ++ (replicate (z - size o) 0 ++ (b ++ D))) off on
      ∙ ap (λ (u : List ℕ). u ++ (replicate (z - size o) 0 ++ (ws ++ D))) (append-nil U)
      ∙ sym (append_assoc U (replicate (z - size o) 0) (ws ++ D))
      ∙ sym (mid-put ws before (replicate (size o) 0) D (place_of W g' s' n) place (length-replicate {A = ℕ} (size o) 0 ∙ sym (length-object_words (reference W g s) false o)))
      ∙ ap (λ (xs : List ℕ). put xs (place_of W g' s' n) ws)
      (append_assoc U (replicate (z - size o) 0) (replicate (size o) 0 ++ D)
      ∙ ap (λ (xs : List ℕ). U ++ xs) (sym (append_assoc (replicate (z - size o) 0) (replicate (size o) 0) D) ∙ ap (λ (zs : List ℕ). zs ++ D) (sym (zeros-split-end z (size o) (omega arith)))))

  pub allocated : image W g' s' [] ≡ put (image W g s []) (place_of W g' s' n) (object_words (reference W g s) false o)
  allocated = elim (cases_Bool (is_record o)) [ inl e ↦ record-allocated e | inr e ↦ class-allocated e ]

  -- where the new object stands
  pub new-place : place_of W g' s' n ≡ cond (is_record o) (low_end g s) (high_end W g s - size o)
  new-place =
      elim (cases_Bool (is_record o)) [
        | inl e ↦
            let e' : is_record (object_at g' n) ≡ true = ap is_record new-object ∙ e in
            let at : place_of W g' s' n ≡ total (record_size g' s') n = cond-true _ _ _ e' in
            at ∙ total-same (record_size g s) (record_size g' s') n (below-record_size W g g' s s' n old-objects old-standing) ∙ sym (cond-true _ _ _ e)
        | inr e ↦
            let u = length-upward (record_words W g s []) (record_size g s) (length-record_words W g s []) n in
            let a = length-append (upward (record_words W g s []) n) (replicate (between W g s - size o) 0) in
            let b = length-replicate {A = ℕ} (between W g s - size o) 0 in
            let same : place_of W g' s' n ≡ high_end W g s - size o = omega (arith, class-place e, u, a, b, total-sides g s n, fits) in
            same ∙ sym (cond-false _ _ _ e)
      ]

  -- the handles: d names the new object, and the others are as they were
  module _ (held_below : (h q : ℕ) → held g h ≡ object q → q < length g.objects) where
    old-handles : (vs : List Value) → ((h q : ℕ) → get_or vs h empty ≡ object q → q < length g.objects) → map (value_word (reference W g' s')) vs ≡ map (value_word (reference W g s)) vs
    old-handles [] b = refl
    old-handles (v ∷ vs) b =
        ap₂ {C = List ℕ} (λ w ws. w ∷ ws)
        (value_same (reference W g s) (reference W g' s') v (λ q e. below-reference W g g' s s' n old-objects old-standing q (b 0 q e)))
        (old-handles vs (λ h q e. b (suc h) q e))

    pub new-handles : handle_words W g' s' ≡ set (handle_words W g s) d (reference W g' s' n)
    new-handles =
        map-set (value_word (reference W g' s')) g.handles d (object n)
        ∙ ap (λ (ws : List ℕ). set ws d (reference W g' s' n)) (old-handles g.handles held_below)

-- how many words lie between the ends
pub between_ends : (W : ℕ) (g : Graph) (s : List Bool) → words_of g s ≤ W → (low_end g s ≤ high_end W g s) × (between W g s ≡ high_end W g s - low_end g s)
between_ends W g s fits = let t = total-sides g s (length g.objects) in (omega (arith, t), omega (arith, t))
