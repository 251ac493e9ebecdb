-- What is read of the words of a heap at rest.
use Rattle.std.proofs.Common.{◌≡◌, ℕ, zero, suc, ◌+◌, ◌-◌, ◌/◌, ◌%◌, ◌<◌, ◌≤◌, Bool, true, false, cond, not, leb, ◌⊎◌, List, [], ◌∷◌, length, get_or, ℤ, sym, refl, ap, ◌∙◌, subst, ap₂, inl, inr, add-zero, arith}
use mathlib.Core.Bool.{beq}
use Rattle.std.proofs.lemmas.Bool.{cond-true, false≢true, cases_Bool, cases_lt, le-leb, lt-leb, eqb-true, not-false, leb-false}
use Rattle.std.proofs.lemmas.List.{get_or-map}
use Rattle.scheme.specs.Meaning.{Meaning, is_raw, raws}
use Rattle.graph.specs.Graph.{Value, empty, number, object, Cell, raw, value, Object, a_record, a_layout, a_map, Graph, held, object_at, is_record, size}
use Rattle.graph.specs.Reach.{Names, its_layout, its_map}
use Rattle.graph.specs.Step.{object_kind, kind_of, object_of, position_of, cells_of, raw_cell, cell_value, cell_word, figure_of, part_kind, part_of, number_of, in_range, layout_raws}
use Rattle.graph.specs.Words.{place_of, reference, header, value_word, field_word, object_words, number_word}
use Rattle.graph.specs.Sound.{FieldsOf, Formed}
use Rattle.graph.proofs.Laws.{numbers-encoded, references-read, headers-read}
use Rattle.graph.proofs.Sound.{stands-below}
use Rattle.graph.proofs.Rests.{read-rests, read-handle, held_fits, tell-kind, Told}
use Rattle.heap.specs.Effects.{View}
use Rattle.heap.specs.Views.{Stands, Means}
use Rattle.heap.proofs.Judging.{pass-first, pass-rest}
use Rattle.heap.specs.Effects.{part_offset}
use Rattle.heap.specs.Checks.{map_of, is_kind, has_field, is_sort, Passes, none, more, Stopped, stops_here, stops_later}
use Rattle.graph.specs.declared.Refusal.TheVariants.{NoField, OtherField}

apart : (b sort : Bool) → not (beq b sort) ≡ true → cond sort (not b) b ≡ true
apart true true ne = ne
apart true false ne = refl
apart false true ne = refl
apart false false ne = ne

alike : (b sort : Bool) → not (beq b sort) ≡ false → cond sort (not b) b ≡ false
alike true true e = refl
alike true false e = e
alike false true e = e
alike false false e = refl

of-sort : (b sort : Bool) → cond sort (not b) b ≡ false → b ≡ sort
of-sort true true e = refl
of-sort true false e = e
of-sort false true e = sym e
of-sort false false e = refl

no-number-kind : (o : Object) → object_kind o ≡ 1 → ⊥
no-number-kind (a_record l cells) e = omega arith
no-number-kind (a_layout c n) e = omega arith
no-number-kind (a_map r n p) e = omega arith

part-kind : (k : ℕ) → 2 ≤ part_kind k
part-kind zero = omega arith
part-kind (suc zero) = omega arith
part-kind (suc (suc k)) = omega arith

part-word : (ref : ℕ → ℕ) (o : Object) (k : ℕ) → k ≤ 3 → object_kind o ≡ part_kind k → (part_offset k < size o) × (get_or (object_words ref false o) (part_offset k) 0 ≡ value_word ref (part_of o k))
part-word ref (a_record l cells) zero b e = (omega arith, refl)
part-word ref (a_record l cells) (suc zero) b e = absurd (omega arith)
part-word ref (a_record l cells) (suc (suc k)) b e = absurd (omega arith)
part-word ref (a_layout c n) zero b e = absurd (omega arith)
part-word ref (a_layout c n) (suc zero) b e = (omega arith, refl)
part-word ref (a_layout c n) (suc (suc k)) b e = absurd (omega arith)
part-word ref (a_map r n p) zero b e = absurd (omega arith)
part-word ref (a_map r n p) (suc zero) b e = absurd (omega arith)
part-word ref (a_map r n p) (suc (suc zero)) b e = (omega arith, refl)
part-word ref (a_map r n p) (suc (suc (suc zero))) b e = (omega arith, refl)
part-word ref (a_map r n p) (suc (suc (suc (suc k)))) b e = absurd (omega arith)

figure-word : (ref : ℕ → ℕ) (o : Object) → (object_kind o ≡ 2 → ⊥) → (1 < size o) × (get_or (object_words ref false o) 1 0 ≡ figure_of o)
figure-word ref (a_record l cells) ne = absurd (ne refl)
figure-word ref (a_layout c n) ne = (omega arith, refl)
figure-word ref (a_map r n p) ne = (omega arith, refl)

two-add : (i : ℕ) → 2 + i ≡ suc (suc i)
two-add i = omega arith

module _ (m : Meaning) (v : View) (g : Graph) (s : List Bool) (st : Stands m v g s) where
  abbrev W : ℕ
  W = v.limit

  abbrev words : List ℕ
  words = v.words

  pub held-means : (h : ℕ) → h < 32 → Means v.limit g s (get_or v.handles h 0) (held g h)
  held-means h l = record { word_is = read-handle m W g s words v.handles st.rests h l; fitting = held_fits m W g s words v.handles st.rests h (held g h) refl }

  kind-told : (w : ℕ) (x : Value) → Means v.limit g s w x → Told m W g s words v.handles st.rests x w
  kind-told w x is = subst (λ (y : ℕ). Told m W g s words v.handles st.rests x y) (sym is.word_is) (tell-kind m W g s words v.handles st.rests x is.fitting)

  -- the kind, by the word's tag
  pub kind-plain : (w : ℕ) (x : Value) → Means v.limit g s w x → (w % 4 ≡ 3 → ⊥) → w % 4 ≡ kind_of g x
  kind-plain w x is ne =
      let t = kind-told w x is in
      elim (cases_lt (w % 4) 1) [
        | inl l ↦ omega (arith, t.when_0 (omega arith))
        | inr l ↦ elim (cases_lt (w % 4) 2) [
          | inl k ↦ omega (arith, t.when_1 (omega arith))
          | inr k ↦ let two : w % 4 ≡ 2 = below-four (w % 4) (omega arith) k ne in omega (arith, t.when_2 two)
        ]
      ]
    where
      below-four : (n : ℕ) → n < 4 → 2 ≤ n → (n ≡ 3 → ⊥) → n ≡ 2
      below-four n a b ne = elim (cases_lt n 3) [ inl l ↦ omega arith | inr l ↦ absurd (ne (omega arith)) ]

  pub kind-class : (w : ℕ) (x : Value) → Means v.limit g s w x → w % 4 ≡ 3 → get_or v.words (w / 4) 0 / 4 % 4 + 2 ≡ kind_of g x
  kind-class w x is e = sym ((kind-told w x is).when_3 e)

  -- a word of the object that a reference leads to
  pub read_of : (q i w : ℕ) → get_or s q false ≡ true → w ≡ reference v.limit g s q → i < size (object_at g q) → get_or v.words (w / 4 + i) 0 ≡ get_or (object_words (reference v.limit g s) false (object_at g q)) i 0
  read_of q i w here e l =
      ap (λ (p : ℕ). get_or words (p + i) 0) (ap (λ (x : ℕ). x / 4) e ∙ (references-read W g s q).place)
      ∙ read-rests m W g s words v.handles st.rests q i here l

  below : (q : ℕ) → get_or s q false ≡ true → q < length g.objects
  below q here = omega (arith, stands-below s q here, st.rests.sound.as_long)

  formed : (q : ℕ) → get_or s q false ≡ true → Formed m g (object_at g q)
  formed q here = st.rests.sound.formed q (below q here)

  names-stands : (q n : ℕ) → get_or s q false ≡ true → Names (object_at g q) n → get_or s n false ≡ true
  names-stands q n here h = st.rests.sound.named_stands q n here h

  -- the rule, from a layout's reference
  rule-at : (n w : ℕ) (o : Object) → get_or s n false ≡ true → object_at g n ≡ o → object_kind o ≡ 4 → w ≡ reference v.limit g s n → get_or v.words (w / 4 + 1) 0 ≡ figure_of (object_at g n)
  rule-at n w (a_record l cells) here e k is = absurd (omega arith)
  rule-at n w (a_layout c p) here e k is = absurd (omega arith)
  rule-at n w (a_map r a b) here e k is =
      read_of n 1 w here is (subst (λ (o : Object). 1 < size o) (sym e) (omega arith))
      ∙ ap (λ (o : Object). get_or (object_words (reference W g s) false o) 1 0) e
      ∙ sym (ap figure_of e)

  -- the map's word and count of a layout
  pub record OfLayout (q w : ℕ) : Type 0 where
    pub count : get_or v.words (w / 4 + 1) 0 ≡ figure_of (object_at g q)
    pub few : figure_of (object_at g q) ≤ 32
    pub map_word : get_or v.words (w / 4 + 2) 0 ≡ reference v.limit g s (map_of (object_at g q))
    pub map_stands : get_or s (map_of (object_at g q)) false ≡ true
    pub map_kind : object_kind (object_at g (map_of (object_at g q))) ≡ 4
    pub shaped : object_at g q ≡ a_layout (figure_of (object_at g q)) (map_of (object_at g q))

  layout-at : (q w : ℕ) (o : Object) → get_or s q false ≡ true → object_at g q ≡ o → object_kind o ≡ 3 → w ≡ reference v.limit g s q → OfLayout q w
  layout-at q w (a_record l cells) here e k is = absurd (omega arith)
  layout-at q w (a_layout c n) here e k is =
      let f : Formed m g (a_layout c n) = subst (λ (o : Object). Formed m g o) e (formed q here) in
      let map_is : map_of (object_at g q) ≡ n = ap map_of e in
      let read : (i : ℕ) → i < 4 → get_or words (w / 4 + i) 0 ≡ get_or (object_words (reference W g s) false (a_layout c n)) i 0 =
      λ i l.
      read_of q i w here is (subst (λ (o : Object). i < size o) (sym e) l)
      ∙ ap (λ (o : Object). get_or (object_words (reference W g s) false o) i 0) e
      in
      record {
        count = read 1 (omega arith) ∙ sym (ap figure_of e);
        few = subst (λ (o : Object). figure_of o ≤ 32) (sym e) f.0;
        map_word = read 2 (omega arith) ∙ ap (reference W g s) (sym map_is);
        map_stands = names-stands q (map_of (object_at g q)) here (subst (λ (o : Object). Names o (map_of o)) (sym e) its_map);
        map_kind = ap (λ (k : ℕ). object_kind (object_at g k)) map_is ∙ f.1;
        shaped = e ∙ ap₂ (λ (a b : ℕ). a_layout a b) (sym (ap figure_of e)) (sym map_is);
      }
  layout-at q w (a_map r a b) here e k is = absurd (omega arith)

  pub of-layout : (q w : ℕ) → get_or s q false ≡ true → object_kind (object_at g q) ≡ 3 → w ≡ reference v.limit g s q → OfLayout q w
  of-layout q w here k is = layout-at q w (object_at g q) here refl k is

  pub layout-rule : (q w p : ℕ) → get_or s q false ≡ true → object_kind (object_at g q) ≡ 3 → w ≡ reference v.limit g s q → p ≡ get_or v.words (w / 4 + 2) 0 → get_or v.words (p / 4 + 1) 0 ≡ figure_of (object_at g (map_of (object_at g q)))
  layout-rule q w p here k is e =
      let f = of-layout q w here k is in
      rule-at (map_of (object_at g q)) p (object_at g (map_of (object_at g q))) f.map_stands refl f.map_kind (e ∙ f.map_word)

  -- a layout has as many fields as the word behind its header says
  pub layout-count : (x : Value) (w : ℕ) → Means v.limit g s w x → kind_of g x ≡ 3 → (get_or v.words (w / 4 + 1) 0 ≡ figure_of (object_of g x)) × (figure_of (object_of g x) ≤ 32)
  layout-count empty w is k = absurd (omega arith)
  layout-count (number n) w is k = absurd (omega arith)
  layout-count (object q) w is k = let f = of-layout q w is.fitting k is.word_is in (f.count, f.few)

  -- Records.

  fields-kind : (o : Object) (xs : List Cell) → FieldsOf m g o xs → object_kind o ≡ 3
  fields-kind (a_record l cells) xs f = absurd f
  fields-kind (a_layout c n) xs f = refl
  fields-kind (a_map r a b) xs f = absurd f

  fields-sort : (o : Object) (xs : List Cell) → FieldsOf m g o xs → (i : ℕ) → i < length xs → raw_cell (get_or xs i (raw 0)) ≡ is_raw m (figure_of (object_at g (map_of o))) i
  fields-sort (a_record l cells) xs f i l' = absurd f
  fields-sort (a_layout c n) xs f i l = f.1 i (omega (arith, f.0))
  fields-sort (a_map r a b) xs f i l = absurd f

  -- what a record's word leads to
  pub record OfRecord (x : Value) (w : ℕ) : Type 0 where
    pub named : x ≡ object (position_of x)
    pub stands : get_or s (position_of x) false ≡ true
    pub rec : is_record (object_at g (position_of x)) ≡ true
    pub place : w / 4 ≡ place_of v.limit g s (position_of x)
    pub sized : size (object_at g (position_of x)) ≡ 2 + length (cells_of (object_of g x))
    pub count : get_or v.words (w / 4) 0 / 16 ≡ 2 + length (cells_of (object_of g x))
    pub layout : ℕ
    pub layout_stands : get_or s layout false ≡ true
    pub layout_kind : object_kind (object_at g layout) ≡ 3
    pub layout_word : get_or v.words (w / 4 + 1) 0 ≡ reference v.limit g s layout
    pub shaped : object_of g x ≡ a_record layout (cells_of (object_of g x))
    pub sort : (i : ℕ) → i < length (cells_of (object_of g x)) → raw_cell (get_or (cells_of (object_of g x)) i (raw 0)) ≡ is_raw m (figure_of (object_at g (map_of (object_at g layout)))) i
    pub field_word_is : (i : ℕ) → i < length (cells_of (object_of g x)) → get_or v.words (w / 4 + (2 + i)) 0 ≡ field_word (reference v.limit g s) (get_or (cells_of (object_of g x)) i (raw 0))

  record-at : (q w : ℕ) (o : Object) → get_or s q false ≡ true → object_at g q ≡ o → object_kind o ≡ 2 → w ≡ reference v.limit g s q → OfRecord (object q) w
  record-at q w (a_record l cells) here e k is =
      let f : FieldsOf m g (object_at g l) cells = subst (λ (o : Object). Formed m g o) e (formed q here) in
      let cells_is : cells_of (object_at g q) ≡ cells = ap cells_of e in
      let read : (i : ℕ) → i < 2 + length cells → get_or words (w / 4 + i) 0 ≡ get_or (object_words (reference W g s) false (a_record l cells)) i 0 =
      λ i l'.
      read_of q i w here is (subst (λ (o : Object). i < size o) (sym e) l')
      ∙ ap (λ (o : Object). get_or (object_words (reference W g s) false o) i 0) e
      in
      let head : get_or words (w / 4) 0 ≡ header false 0 (2 + length cells) = ap (λ (p : ℕ). get_or words p 0) (sym (add-zero (w / 4))) ∙ read 0 (omega arith) in
      record {
        named = refl;
        stands = here;
        rec = ap is_record e;
        place = ap (λ (x : ℕ). x / 4) is ∙ (references-read W g s q).place;
        sized = ap size e ∙ ap (λ (xs : List Cell). 2 + length xs) (sym cells_is);
        count = ap (λ (x : ℕ). x / 16) head ∙ (headers-read false 0 (2 + length cells) (omega arith)).sizes ∙ ap (λ (xs : List Cell). 2 + length xs) (sym cells_is);
        layout = l;
        layout_stands = names-stands q l here (subst (λ (o : Object). Names o l) (sym e) its_layout);
        layout_kind = fields-kind (object_at g l) cells f;
        layout_word = read 1 (omega arith);
        shaped = e ∙ ap (a_record l) (sym cells_is);
        sort = subst (λ (xs : List Cell). (i : ℕ) → i < length xs → raw_cell (get_or xs i (raw 0)) ≡ is_raw m (figure_of (object_at g (map_of (object_at g l)))) i) (sym cells_is) (fields-sort (object_at g l) cells f);
        field_word_is = subst (λ (xs : List Cell). (i : ℕ) → i < length xs → get_or v.words (w / 4 + (2 + i)) 0 ≡ field_word (reference W g s) (get_or xs i (raw 0))) (sym cells_is)
            (λ i l'. read (2 + i) (omega arith) ∙ ap (λ (k : ℕ). get_or (object_words (reference W g s) false (a_record l cells)) k 0) (two-add i) ∙ get_or-map (field_word (reference W g s)) cells i (raw 0) 0 l');
      }
  record-at q w (a_layout c n) here e k is = absurd (omega arith)
  record-at q w (a_map r a b) here e k is = absurd (omega arith)

  pub of-record : (x : Value) (w : ℕ) → Means v.limit g s w x → kind_of g x ≡ 2 → OfRecord x w
  of-record empty w is k = absurd (omega arith)
  of-record (number n) w is k = absurd (omega arith)
  of-record (object q) w is k = record-at q w (object_at g q) is.fitting refl k is.word_is

  -- a field that is not there, one of the other sort, and one that will do
  pub no_field : (x : Value) (w i at : ℕ) (sort : Bool) → Means v.limit g s w x → kind_of g x ≡ 2 → get_or v.words (w / 4) 0 / 16 ≤ i + 2 → Stopped (has_field g x i at ∷ is_sort g x i sort at ∷ []) (NoField at)
  no_field x w i at sort is k l = stops_here (le-leb (length (cells_of (object_of g x))) i (omega (arith, (of-record x w is k).count)))

  module _ (x : Value) (w i at : ℕ) (sort b : Bool) (is : Means v.limit g s w x) (k : kind_of g x ≡ 2) (l : i + 2 < get_or v.words (w / 4) 0 / 16) (rule : ℕ) (rule-is : (q : ℕ) → get_or s q false ≡ true → object_kind (object_at g q) ≡ 3 → get_or v.words (w / 4 + 1) 0 ≡ reference v.limit g s q → rule ≡ figure_of (object_at g (map_of (object_at g q)))) (b-is : b ≡ is_raw m rule i) where
    there : leb (length (cells_of (object_of g x))) i ≡ false
    there = lt-leb (length (cells_of (object_of g x))) i (omega (arith, (of-record x w is k).count))

    sort-is : raw_cell (get_or (cells_of (object_of g x)) i (raw 0)) ≡ b
    sort-is =
        let f = of-record x w is k in
        f.sort i (omega (arith, f.count)) ∙ ap (λ (r : ℕ). is_raw m r i) (sym (rule-is f.layout f.layout_stands f.layout_kind f.layout_word)) ∙ sym b-is

    pub other-field : not (beq b sort) ≡ true → Stopped (has_field g x i at ∷ is_sort g x i sort at ∷ []) (OtherField at)
    other-field ne = stops_later there (stops_here (ap (λ (f : Bool). cond sort (not f) f) sort-is ∙ apart b sort ne))

    pub good-field : not (beq b sort) ≡ false → Passes (has_field g x i at ∷ is_sort g x i sort at ∷ [])
    good-field e = more there (more (ap (λ (f : Bool). cond sort (not f) f) sort-is ∙ alike b sort e) none)

  -- a field that was found
  pub record Found (x : Value) (w i : ℕ) (sort : Bool) : Type 0 where
    pub owner : OfRecord x w
    pub inside : i < length (cells_of (object_of g x))
    pub sort_found : raw_cell (get_or (cells_of (object_of g x)) i (raw 0)) ≡ sort

  pub found : (x : Value) (w i at fat : ℕ) (sort : Bool) → Means v.limit g s w x → Passes (is_kind g x 2 at ∷ has_field g x i fat ∷ is_sort g x i sort fat ∷ []) → Found x w i sort
  found x w i at fat sort is p =
      record {
        owner = of-record x w is (eqb-true (kind_of g x) 2 (not-false _ (pass-first p)));
        inside = leb-false (length (cells_of (object_of g x))) i (pass-first (pass-rest p));
        sort_found = of-sort (raw_cell (get_or (cells_of (object_of g x)) i (raw 0))) sort (pass-first (pass-rest (pass-rest p)));
      }

  -- any word of an object
  read-object : (q w : ℕ) (o : Object) → get_or s q false ≡ true → object_at g q ≡ o → w ≡ reference v.limit g s q → (i : ℕ) → i < size o → get_or v.words (w / 4 + i) 0 ≡ get_or (object_words (reference v.limit g s) false o) i 0
  read-object q w o here e is i l =
      read_of q i w here is (subst (λ (y : Object). i < size y) (sym e) l) ∙ ap (λ (y : Object). get_or (object_words (reference v.limit g s) false y) i 0) e

  -- the number of a word
  pub number_read : (x : Value) (w : ℕ) (r : ℤ) → Means v.limit g s w x → kind_of g x ≡ 1 → ((n : ℤ) → in_range n ≡ true → w ≡ number_word n → r ≡ n) → r ≡ number_of x
  number_read empty w r is k f = absurd (omega arith)
  number_read (number n) w r is k f = f n is.fitting is.word_is
  number_read (object q) w r is k f = absurd (no-number-kind (object_at g q) k)

  -- a part
  pub part-read : (x : Value) (w k : ℕ) → Means v.limit g s w x → k ≤ 3 → kind_of g x ≡ part_kind k → get_or v.words (w / 4 + part_offset k) 0 ≡ value_word (reference v.limit g s) (part_of (object_of g x) k)
  part-read empty w k is l e = absurd (omega (arith, part-kind k))
  part-read (number n) w k is l e = absurd (omega (arith, part-kind k))
  part-read (object q) w k is l e =
      let p = part-word (reference v.limit g s) (object_at g q) k l e in
      read-object q w (object_at g q) is.fitting refl is.word_is (part_offset k) p.0 ∙ p.1

  -- a figure
  pub record-figure : (x : Value) (w : ℕ) → Means v.limit g s w x → kind_of g x ≡ 2 → get_or v.words (w / 4) 0 / 16 - 2 ≡ figure_of (object_of g x)
  record-figure x w is k = let f = of-record x w is k in omega (arith, f.count, ap figure_of f.shaped)

  pub class-figure : (x : Value) (w : ℕ) → Means v.limit g s w x → (kind_of g x ≡ 2 → ⊥) → 2 ≤ kind_of g x → get_or v.words (w / 4 + 1) 0 ≡ figure_of (object_of g x)
  class-figure empty w is ne l = absurd (omega arith)
  class-figure (number n) w is ne l = absurd (omega arith)
  class-figure (object q) w is ne l = let p = figure-word (reference v.limit g s) (object_at g q) ne in read-object q w (object_at g q) is.fitting refl is.word_is 1 p.0 ∙ p.1

  -- the number of raw fields that a layout gives its records
  pub raws-read : (x : Value) (w rule n : ℕ) → Means v.limit g s w x → kind_of g x ≡ 3 → ((q : ℕ) → get_or s q false ≡ true → object_kind (object_at g q) ≡ 3 → w ≡ reference v.limit g s q → rule ≡ figure_of (object_at g (map_of (object_at g q)))) → n ≡ get_or v.words (w / 4 + 1) 0 → raws m rule n ≡ layout_raws m g (object_of g x)
  raws-read empty w rule n is k f e = absurd (omega arith)
  raws-read (number z) w rule n is k f e = absurd (omega arith)
  raws-read (object q) w rule n is k f e =
      let of = of-layout q w is.fitting k is.word_is in
      ap₂ (raws m) (f q is.fitting k is.word_is) (e ∙ of.count) ∙ ap (layout_raws m g) (sym of.shaped)

-- a field's word, by its sort
pub value-word : (ref : ℕ → ℕ) (x : Cell) → raw_cell x ≡ false → field_word ref x ≡ value_word ref (cell_value x)
value-word ref (raw w) e = absurd (false≢true (sym e))
value-word ref (value u) e = refl

pub raw_word : (ref : ℕ → ℕ) (x : Cell) → raw_cell x ≡ true → field_word ref x ≡ cell_word x
raw_word ref (raw w) e = refl
raw_word ref (value u) e = absurd (false≢true e)

-- the two kinds of a class
class-kind : (o : Object) → is_record o ≡ false → (object_kind o ≡ 3) ⊎ (object_kind o ≡ 4)
class-kind (a_record l cells) e = absurd (false≢true (sym e))
class-kind (a_layout c n) e = inl refl
class-kind (a_map r a b) e = inr refl

module _ (m : Meaning) (v : View) (g : Graph) (s : List Bool) (st : Stands m v g s) where
  pub class-kinds : (w : ℕ) (x : Value) → Means v.limit g s w x → w % 4 ≡ 3 → (kind_of g x ≡ 3) ⊎ (kind_of g x ≡ 4)
  class-kinds w empty is e = absurd (omega (arith, is.word_is))
  class-kinds w (number n) is e = absurd (omega (arith, is.word_is, (numbers-encoded n is.fitting).tag))
  class-kinds w (object q) is e =
      elim (cases_Bool (is_record (object_at g q))) [
        | inl r ↦ absurd (omega (arith, is.word_is, (references-read v.limit g s q).tag, cond-true {A = ℕ} (is_record (object_at g q)) 2 3 r))
        | inr r ↦ class-kind (object_at g q) r
      ]

  -- by the number of the kind in the header
  pub layout_word : (w k : ℕ) (x : Value) → Means v.limit g s w x → w % 4 ≡ 3 → k ≡ get_or v.words (w / 4) 0 / 4 % 4 → k ≡ 1 → 3 ≡ kind_of g x
  layout_word w k x is e at one = omega (arith, kind-class m v g s st w x is e, at, one)

  pub map_word : (w k : ℕ) (x : Value) → Means v.limit g s w x → w % 4 ≡ 3 → k ≡ get_or v.words (w / 4) 0 / 4 % 4 → (k ≡ 1 → ⊥) → 4 ≡ kind_of g x
  map_word w k x is e at ne =
      elim (class-kinds w x is e) [ inl three ↦ absurd (ne (omega (arith, kind-class m v g s st w x is e, at, three))) | inr four ↦ sym four ]
