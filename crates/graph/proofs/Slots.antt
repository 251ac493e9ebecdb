-- Which words of an object are references, by its kind and rule and by the words.
use Rattle.std.proofs.Common.{◌≡◌, ℕ, zero, suc, ◌-◌, ◌<◌, Bool, true, false, cond, not, ◌&&◌, ◌||◌, eqb, leb, List, map, length, get_or, ℤ, sym, refl, ap, ◌∙◌, subst, ap₂, inl, inr, arith}
use Rattle.std.proofs.lemmas.Bool.{false≢true, true≢false, and_parts, ne_eqb, le-leb, lt-leb, eqb-true, cases_lt}
use Rattle.std.proofs.lemmas.List.{get_or-map, get_or_past}
use Rattle.scheme.specs.Meaning.{Meaning, is_raw}
use Rattle.graph.specs.Graph.{Value, empty, number, object, Cell, raw, value, Object, a_record, a_layout, a_map, Graph, object_at, size}
use Rattle.graph.specs.Reach.{Names, its_layout, its_field, its_map, its_name, its_parent}
use Rattle.graph.specs.Step.{figure_of, raw_cell, in_range}
use Rattle.graph.specs.Words.{header_kind, value_word, field_word, object_words}
use Rattle.graph.specs.Sound.{Contains, in_field, as_name, as_parent, FieldsOf, Formed}
use Rattle.graph.proofs.Laws.{numbers-encoded}
use Rattle.graph.specs.Places.{refers, value_at}
use Rattle.graph.specs.Places.{is_object, cell_refers, refers_at}

abbrev pub map_of : Object → ℕ
map_of (a_record l cells) = 0
map_of (a_layout c n) = n
map_of (a_map r n p) = 0

-- the rule that a record's fields go by
abbrev pub rule_of : Graph → Object → ℕ
rule_of g (a_record l cells) = figure_of (object_at g (map_of (object_at g l)))
rule_of g (a_layout c n) = 0
rule_of g (a_map r n p) = 0

-- a word that refers names an object, and is the reference to it
pub refers_to : (o : Object) (i : ℕ) → refers_at o i ≡ true → i < size o → (t : ℕ) × Names o t × ((ref : ℕ → ℕ) (mark : Bool) → get_or (object_words ref mark o) i 0 ≡ ref t)
refers_to (a_record l cells) zero e h = absurd (false≢true e)
refers_to (a_record l cells) (suc zero) e h = (l, its_layout, λ ref mark. refl)
refers_to (a_record l cells) (suc (suc j)) e h = cell (get_or cells j (raw 0)) refl e
  where
    word : (ref : ℕ → ℕ) → get_or (map (field_word ref) cells) j 0 ≡ field_word ref (get_or cells j (raw 0))
    word ref = get_or-map (field_word ref) cells j (raw 0) 0 (omega arith)

    cell : (x : Cell) → get_or cells j (raw 0) ≡ x → cell_refers x ≡ true → (t : ℕ) × Names (a_record l cells) t × ((ref : ℕ → ℕ) (mark : Bool) → get_or (map (field_word ref) cells) j 0 ≡ ref t)
    cell (raw w) f z = absurd (false≢true z)
    cell (value empty) f z = absurd (false≢true z)
    cell (value (number n)) f z = absurd (false≢true z)
    cell (value (object t)) f z = (t, its_field j f, λ ref mark. word ref ∙ ap (field_word ref) f)
refers_to (a_layout c n) i e h = (n, its_map, λ ref mark. ap (λ x. get_or (object_words ref mark (a_layout c n)) x 0) (eqb-true i 2 e))
refers_to (a_map r n p) i e h = go (eqb i 2) refl e
  where
    name : (v : Value) → is_object v ≡ true → (t : ℕ) × Names (a_map r v p) t × ((ref : ℕ → ℕ) → value_word ref v ≡ ref t)
    name empty z = absurd (false≢true z)
    name (number x) z = absurd (false≢true z)
    name (object t) z = (t, its_name, λ ref. refl)

    parent : (v : Value) → is_object v ≡ true → (t : ℕ) × Names (a_map r n v) t × ((ref : ℕ → ℕ) → value_word ref v ≡ ref t)
    parent empty z = absurd (false≢true z)
    parent (number x) z = absurd (false≢true z)
    parent (object t) z = (t, its_parent, λ ref. refl)

    go : (b : Bool) → eqb i 2 ≡ b → cond b (is_object n) (eqb i 3 && is_object p) ≡ true → (t : ℕ) × Names (a_map r n p) t × ((ref : ℕ → ℕ) (mark : Bool) → get_or (object_words ref mark (a_map r n p)) i 0 ≡ ref t)
    go true f z = let x = name n z in (x.0, x.1, λ ref mark. ap (λ y. get_or (object_words ref mark (a_map r n p)) y 0) (eqb-true i 2 f) ∙ x.2 ref)
    go false f z =
        let y = and_parts _ _ z in
        let x = parent p y.1 in
        (x.0, x.1, λ ref mark. ap (λ y. get_or (object_words ref mark (a_map r n p)) y 0) (eqb-true i 3 y.0) ∙ x.2 ref)

-- and one that does not is the same for all references and marks
plain_value : (v : Value) → is_object v ≡ false → (ref ref' : ℕ → ℕ) → value_word ref v ≡ value_word ref' v
plain_value empty z ref ref' = refl
plain_value (number n) z ref ref' = refl
plain_value (object t) z ref ref' = absurd (true≢false z)

pub plain_word : (o : Object) (i : ℕ) → refers_at o i ≡ false → 0 < i → i < size o → (ref ref' : ℕ → ℕ) (mark mark' : Bool) → get_or (object_words ref mark o) i 0 ≡ get_or (object_words ref' mark' o) i 0
plain_word (a_record l cells) zero e a h ref ref' mark mark' = absurd (omega arith)
plain_word (a_record l cells) (suc zero) e a h ref ref' mark mark' = absurd (true≢false e)
plain_word (a_record l cells) (suc (suc j)) e a h ref ref' mark mark' = word ref ∙ cell (get_or cells j (raw 0)) e ∙ sym (word ref')
  where
    word : (ref : ℕ → ℕ) → get_or (map (field_word ref) cells) j 0 ≡ field_word ref (get_or cells j (raw 0))
    word ref = get_or-map (field_word ref) cells j (raw 0) 0 (omega arith)

    cell : (x : Cell) → cell_refers x ≡ false → field_word ref x ≡ field_word ref' x
    cell (raw w) z = refl
    cell (value v) z = plain_value v z ref ref'
plain_word (a_layout c n) zero e a h ref ref' mark mark' = absurd (omega arith)
plain_word (a_layout c n) (suc zero) e a h ref ref' mark mark' = refl
plain_word (a_layout c n) (suc (suc zero)) e a h ref ref' mark mark' = absurd (true≢false e)
plain_word (a_layout c n) (suc (suc (suc zero))) e a h ref ref' mark mark' = refl
plain_word (a_layout c n) (suc (suc (suc (suc i)))) e a h ref ref' mark mark' = absurd (omega arith)
plain_word (a_map r n p) zero e a h ref ref' mark mark' = absurd (omega arith)
plain_word (a_map r n p) (suc zero) e a h ref ref' mark mark' = refl
plain_word (a_map r n p) (suc (suc zero)) e a h ref ref' mark mark' = plain_value n e ref ref'
plain_word (a_map r n p) (suc (suc (suc zero))) e a h ref ref' mark mark' = plain_value p e ref ref'
plain_word (a_map r n p) (suc (suc (suc (suc zero)))) e a h ref ref' mark mark' = refl
plain_word (a_map r n p) (suc (suc (suc (suc (suc i))))) e a h ref ref' mark mark' = absurd (omega arith)

module _ (ref : ℕ → ℕ) (high : (t : ℕ) → refers (ref t) ≡ true) where
  pub refers-value : (v : Value) → ((n : ℤ) → v ≡ number n → in_range n ≡ true) → refers (value_word ref v) ≡ is_object v
  refers-value empty h = refl
  refers-value (number n) h = let t = (numbers-encoded n (h n refl)).tag in lt-leb 2 _ (omega (arith, t))
  refers-value (object q) h = high q

  pub field_at : (cells : List Cell) (j : ℕ) → j < length cells → get_or (map (field_word ref) cells) j 0 ≡ field_word ref (get_or cells j (raw 0))
  field_at cells j l = get_or-map (field_word ref) cells j (raw 0) 0 l

  pub refers-not-0 : (o : Object) → refers_at o 0 ≡ false
  refers-not-0 (a_record l cells) = refl
  refers-not-0 (a_layout c n) = refl
  refers-not-0 (a_map r n p) = refl

  -- the test by kind and rule
  module _ (m : Meaning) (g : Graph) where
    field-value : (rule j : ℕ) → value_at m 0 rule (suc (suc j)) ≡ not (is_raw m rule j)
    field-value rule j =
        let a : eqb (suc (suc j)) 1 ≡ false = ne_eqb _ _ (λ e. omega (arith, e)) in
        let b : leb 2 (suc (suc j)) ≡ true = le-leb _ _ (omega arith) in
        let c : suc (suc j) - 2 ≡ j = omega arith in
        ap₂ (λ (x y : Bool). x || (y && not (is_raw m rule (suc (suc j) - 2)))) a b ∙ ap (λ (x : ℕ). not (is_raw m rule x)) c

    rule-says : (ol : Object) (cells : List Cell) (j : ℕ) → FieldsOf m g ol cells → j < length cells → raw_cell (get_or cells j (raw 0)) ≡ is_raw m (figure_of (object_at g (map_of ol))) j
    rule-says (a_record l xs) cells j f h = absurd f
    rule-says (a_layout c n) cells j f h = f.1 j (omega (arith, f.0))
    rule-says (a_map r n p) cells j f h = absurd f

    pub value-at : (mark : Bool) (o : Object) → Formed m g o → ((n : ℤ) → Contains o (number n) → in_range n ≡ true) → (i : ℕ) → 0 < i → i < size o →
        refers_at o i ≡ (value_at m (header_kind o) (rule_of g o) i && refers (get_or (object_words ref mark o) i 0))
    value-at mark (a_record l cells) f c zero a h = absurd (omega arith)
    value-at mark (a_record l cells) f c (suc zero) a h = sym (high l)
    value-at mark (a_record l cells) f c (suc (suc j)) a h = cell (get_or cells j (raw 0)) refl (rule-says (object_at g l) cells j f (omega arith))
      where
        word : get_or (map (field_word ref) cells) j 0 ≡ field_word ref (get_or cells j (raw 0))
        word = field_at cells j (omega arith)

        cell : (x : Cell) → get_or cells j (raw 0) ≡ x → raw_cell (get_or cells j (raw 0)) ≡ is_raw m (figure_of (object_at g (map_of (object_at g l)))) j →
            cell_refers (get_or cells j (raw 0)) ≡ (value_at m 0 (figure_of (object_at g (map_of (object_at g l)))) (suc (suc j)) && refers (get_or (map (field_word ref) cells) j 0))
        cell (raw w) e r =
            ap cell_refers e
            ∙ ap (λ (x : Cell). not (raw_cell x) && refers (get_or (map (field_word ref) cells) j 0)) (sym e)
            ∙ ap (λ (x : Bool). not x && refers (get_or (map (field_word ref) cells) j 0)) r
            ∙ ap (λ (x : Bool). x && refers (get_or (map (field_word ref) cells) j 0)) (sym (field-value (figure_of (object_at g (map_of (object_at g l)))) j))
        cell (value v) e r =
            ap cell_refers e
            ∙ sym (refers-value v (λ n z. c n (in_field j (e ∙ ap value z))))
            ∙ ap (λ (x : Cell). refers (field_word ref x)) (sym e)
            ∙ ap refers (sym word)
            ∙ ap (λ (x : Cell). not (raw_cell x) && refers (get_or (map (field_word ref) cells) j 0)) (sym e)
            ∙ ap (λ (x : Bool). not x && refers (get_or (map (field_word ref) cells) j 0)) r
            ∙ ap (λ (x : Bool). x && refers (get_or (map (field_word ref) cells) j 0)) (sym (field-value (figure_of (object_at g (map_of (object_at g l)))) j))
    value-at mark (a_layout c n) f z zero a h = absurd (omega arith)
    value-at mark (a_layout c n) f z (suc zero) a h = refl
    value-at mark (a_layout c n) f z (suc (suc zero)) a h = sym (high n)
    value-at mark (a_layout c n) f z (suc (suc (suc zero))) a h = refl
    value-at mark (a_layout c n) f z (suc (suc (suc (suc i)))) a h = absurd (omega arith)
    value-at mark (a_map r n p) f z zero a h = absurd (omega arith)
    value-at mark (a_map r n p) f z (suc zero) a h = refl
    value-at mark (a_map r n p) f z (suc (suc zero)) a h = sym (refers-value n (λ x e. z x (subst (λ (v : Value). Contains (a_map r n p) v) e as_name)))
    value-at mark (a_map r n p) f z (suc (suc (suc zero))) a h = sym (refers-value p (λ x e. z x (subst (λ (v : Value). Contains (a_map r n p) v) e as_parent)))
    value-at mark (a_map r n p) f z (suc (suc (suc (suc zero)))) a h = refl
    value-at mark (a_map r n p) f z (suc (suc (suc (suc (suc i))))) a h = absurd (omega arith)

-- what an object names stands in one of its reference slots
abbrev pub names-refer : (o : Object) (t : ℕ) → Names o t → (i : ℕ) × (refers_at o i ≡ true) × (i < size o)
names-refer (a_record l cells) t its_layout = (1, refl, omega arith)
names-refer (a_record l cells) t (its_field i e) = (suc (suc i), ap cell_refers e, (let b : i < length cells = elim (cases_lt i (length cells)) [ inl x ↦ x | inr x ↦ absurd (none (sym (get_or_past cells i (raw 0) x) ∙ e)) ] in omega arith))
  where
    none : raw 0 ≡ value (object t) → ⊥
    none z = false≢true (ap cell_refers z)
names-refer (a_layout c n) t its_map = (2, refl, omega arith)
names-refer (a_map r n p) t its_name = (2, refl, omega arith)
names-refer (a_map r n p) t its_parent = (3, refl, omega arith)

pub names-word : (o : Object) (t : ℕ) (n : Names o t) (ref : ℕ → ℕ) (mark : Bool) → get_or (object_words ref mark o) (names-refer o t n).0 0 ≡ ref t
names-word (a_record l cells) t its_layout ref mark = refl
names-word (a_record l cells) t (its_field i e) ref mark =
    let b : i < length cells = elim (cases_lt i (length cells)) [ inl x ↦ x | inr x ↦ absurd (none (sym (get_or_past cells i (raw 0) x) ∙ e)) ] in
    get_or-map (field_word ref) cells i (raw 0) 0 b ∙ ap (field_word ref) e
  where
    none : raw 0 ≡ value (object t) → ⊥
    none z = false≢true (ap cell_refers z)
names-word (a_layout c n) t its_map ref mark = refl
names-word (a_map r n p) t its_name ref mark = refl
names-word (a_map r n p) t its_parent ref mark = refl
