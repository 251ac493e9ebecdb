-- Marking ends with the same objects, whatever its order.
use Rattle.std.proofs.Common.{◌≡◌, ℕ, zero, suc, ◌+◌, ◌<◌, ◌≤◌, Bool, true, false, eqb, ◌⊎◌, List, [], ◌∷◌, ◌++◌, length, get_or, sym, refl, ap, ◌∙◌, subst, inl, inr, zero-add, arith}
use Rattle.std.proofs.lemmas.Bool.{cases_Bool, false≢true, eqb-true, eq-eqb, or_cases, or_left, or_right}
use Rattle.std.proofs.lemmas.List.{ext_get_or}
use Rattle.graph.specs.Graph.{empty, object, Object, a_map, Graph, object_at}
use Rattle.graph.specs.Reach.{Reachable, by_handle, by_object, has, names, handle_names, unmarked, reachable}
use Rattle.graph.specs.Order.{Marking, none, for_handle, for_object, OrderOfMarking, marks_of, OrderIsFree, OrderExists}
use Rattle.graph.proofs.Reach.{has_left, has_right, has-cases, has-names, names-has, has-handles, handles-has, length-mark_all, length-unmarked, mark-found, mark-cases, unmarked-none, length-reachable, reachable-sound, reachable-complete}

module _ (g : Graph) where
  marked-sound : (order : List ℕ) → Marking g order → (q : ℕ) → has order q ≡ true → Reachable g q
  marked-sound order none q e = absurd (false≢true e)
  marked-sound order (for_handle {marked} h x before fresh e) q there =
      elim (or_cases (eqb x q) (has marked q) there) [
        | inl same ↦ by_handle h (e ∙ ap object (eqb-true x q same))
        | inr old ↦ marked-sound marked before q old
      ]
  marked-sound order (for_object {marked} p x before fresh here n) q there =
      elim (or_cases (eqb x q) (has marked q) there) [
        | inl same ↦ subst (Reachable g) (eqb-true x q same) (by_object p (marked-sound marked before p here) n)
        | inr old ↦ marked-sound marked before q old
      ]

  marked-all : (order : List ℕ) → OrderOfMarking g order → (q : ℕ) → Reachable g q → has order q ≡ true
  marked-all order o q (by_handle h e) = o.handles_done h q e
  marked-all order o q (by_object p r n) = o.objects_done p q (marked-all order o p r) n

  length-marks : (order : List ℕ) → length (marks_of g order) ≡ length g.objects
  length-marks order = length-mark_all order 0 (unmarked g.objects) ∙ length-unmarked g.objects

  same-marks : (order : List ℕ) → OrderOfMarking g order → (q : ℕ) → q < length (marks_of g order) → get_or (marks_of g order) q false ≡ get_or (reachable g) q false
  same-marks order o q l =
      let lt : q < length g.objects = omega (arith, l, length-marks order) in
      elim (cases_Bool (get_or (reachable g) q false)) [
        | inl e ↦
            mark-found order 0 (unmarked g.objects) q q (omega (arith, lt, length-unmarked g.objects)) (zero-add q) (marked-all order o q (reachable-sound g q e))
            ∙ sym e
        | inr e ↦
            elim (cases_Bool (get_or (marks_of g order) q false)) [
              | inr f ↦ f ∙ sym e
              | inl f ↦
                  elim (mark-cases order 0 (unmarked g.objects) q q (zero-add q) f) [
                    | inl x ↦ absurd (unmarked-none g.objects q x)
                    | inr x ↦ absurd (false≢true (sym e ∙ reachable-complete g q lt (marked-sound order o.marking q x)))
                  ]
            ]
      ]

pub order-is-free : OrderIsFree
order-is-free g order o =
    record {
      only = marked-sound g order o.marking;
      every = marked-all g order o;
      marks = ext_get_or false (marks_of g order) (reachable g) (length-marks g order ∙ sym (length-reachable g)) (same-marks g order o);
    }

-- An order: while something that is named is not marked, mark it.

-- what the objects of a list name
named_by : Graph → List ℕ → List ℕ
named_by g [] = []
named_by g (p ∷ ps) = names (object_at g p) ++ named_by g ps

all_names : List Object → List ℕ
all_names [] = []
all_names (o ∷ os) = names o ++ all_names os

abbrev unmarked_one : Bool → ℕ
unmarked_one true = 0
unmarked_one false = 1

-- how many of them are not marked
left_in : List ℕ → List ℕ → ℕ
left_in [] order = 0
left_in (x ∷ xs) order = unmarked_one (has order x) + left_in xs order

-- all are marked, or one is not
missing : (xs order : List ℕ) → ((q : ℕ) → has xs q ≡ true → has order q ≡ true) ⊎ ((q : ℕ) × (has xs q ≡ true) × (has order q ≡ false))
missing [] order = inl (λ q e. absurd (false≢true e))
missing (x ∷ xs) order =
    elim (cases_Bool (has order x)) [
      | inr e ↦ inr (x, or_left _ _ (eq-eqb x x refl), e)
      | inl e ↦
          elim (missing xs order) [
            | inr f ↦ inr (f.0, or_right _ _ f.1, f.2)
            | inl f ↦ inl (λ q there. elim (or_cases (eqb x q) (has xs q) there) [ inl same ↦ subst (λ (y : ℕ). has order y ≡ true) (eqb-true x q same) e | inr old ↦ f q old ])
          ]
    ]

-- one more marked leaves fewer
left-fewer : (xs order : List ℕ) (q : ℕ) → left_in xs (q ∷ order) ≤ left_in xs order
unfolding left_in
left-fewer [] order q = omega arith
left-fewer (x ∷ xs) order q =
    let rest = left-fewer xs order q in
    elim (cases_Bool (has order x)) [
      | inl e ↦
          let a : unmarked_one (has (q ∷ order) x) ≡ 0 = ap unmarked_one (or_right (eqb q x) (has order x) e) in
          omega (arith, a, rest)
      | inr e ↦
          let b : unmarked_one (has order x) ≡ 1 = ap unmarked_one e in
          elim (cases_Bool (has (q ∷ order) x)) [
            | inl f ↦ let a : unmarked_one (has (q ∷ order) x) ≡ 0 = ap unmarked_one f in omega (arith, a, b, rest)
            | inr f ↦ let a : unmarked_one (has (q ∷ order) x) ≡ 1 = ap unmarked_one f in omega (arith, a, b, rest)
          ]
    ]

left-less : (xs order : List ℕ) (q : ℕ) → has xs q ≡ true → has order q ≡ false → left_in xs (q ∷ order) < left_in xs order
unfolding left_in
left-less [] order q there fresh = absurd (false≢true there)
left-less (x ∷ xs) order q there fresh =
    elim (or_cases (eqb x q) (has xs q) there) [
      | inl same ↦
          let e : x ≡ q = eqb-true x q same in
          let a : unmarked_one (has (q ∷ order) x) ≡ 0 = ap unmarked_one (or_left (eqb q x) (has order x) (eq-eqb q x (sym e))) in
          let b : unmarked_one (has order x) ≡ 1 = ap unmarked_one (ap (has order) e ∙ fresh) in
          omega (arith, a, b, left-fewer xs order q)
      | inr old ↦
          let rest = left-less xs order q old fresh in
          elim (cases_Bool (has order x)) [
            | inl e ↦
                let a : unmarked_one (has (q ∷ order) x) ≡ 0 = ap unmarked_one (or_right (eqb q x) (has order x) e) in
                omega (arith, a, rest)
            | inr e ↦
                let b : unmarked_one (has order x) ≡ 1 = ap unmarked_one e in
                elim (cases_Bool (has (q ∷ order) x)) [
                  | inl f ↦ let a : unmarked_one (has (q ∷ order) x) ≡ 0 = ap unmarked_one f in omega (arith, a, b, rest)
                  | inr f ↦ let a : unmarked_one (has (q ∷ order) x) ≡ 1 = ap unmarked_one f in omega (arith, a, b, rest)
                ]
          ]
    ]

-- what is named, of the marked objects and of all
has-by : (g : Graph) (order : List ℕ) (q : ℕ) → has (named_by g order) q ≡ true → (p : ℕ) × (has order p ≡ true) × (has (names (object_at g p)) q ≡ true)
unfolding named_by
has-by g [] q e = absurd (false≢true e)
has-by g (p ∷ ps) q e =
    elim (has-cases (names (object_at g p)) (named_by g ps) q e) [
      | inl f ↦ (p, or_left _ _ (eq-eqb p p refl), f)
      | inr f ↦ let r = has-by g ps q f in (r.0, or_right _ _ r.1, r.2)
    ]

by-has : (g : Graph) (order : List ℕ) (p q : ℕ) → has order p ≡ true → has (names (object_at g p)) q ≡ true → has (named_by g order) q ≡ true
unfolding named_by
by-has g [] p q e n = absurd (false≢true e)
by-has g (x ∷ xs) p q e n =
    elim (or_cases (eqb x p) (has xs p) e) [
      | inl same ↦ has_left (names (object_at g x)) (named_by g xs) q (subst (λ (y : ℕ). has (names (object_at g y)) q ≡ true) (sym (eqb-true x p same)) n)
      | inr old ↦ has_right (names (object_at g x)) (named_by g xs) q (by-has g xs p q old n)
    ]

all-has : (os : List Object) (p q : ℕ) → has (names (get_or os p (a_map 0 empty empty))) q ≡ true → has (all_names os) q ≡ true
unfolding all_names
all-has [] p q n = absurd (false≢true n)
all-has (o ∷ os) zero q n = has_left (names o) (all_names os) q n
all-has (o ∷ os) (suc p) q n = has_right (names o) (all_names os) q (all-has os p q n)

module _ (g : Graph) where
  wanted : List ℕ → List ℕ
  wanted order = handle_names g.handles ++ named_by g order

  universe : List ℕ
  universe = handle_names g.handles ++ all_names g.objects

  in-universe : (order : List ℕ) (q : ℕ) → has (wanted order) q ≡ true → has universe q ≡ true
  unfolding wanted universe
  in-universe order q e =
      elim (has-cases (handle_names g.handles) (named_by g order) q e) [
        | inl f ↦ has_left (handle_names g.handles) (all_names g.objects) q f
        | inr f ↦ let r = has-by g order q f in has_right (handle_names g.handles) (all_names g.objects) q (all-has g.objects r.0 q r.2)
      ]

  ended : (order : List ℕ) → Marking g order → ((q : ℕ) → has (wanted order) q ≡ true → has order q ≡ true) → OrderOfMarking g order
  unfolding wanted
  ended order marking all =
      record {
        marking = marking;
        handles_done = λ h q e. all q (has_left (handle_names g.handles) (named_by g order) q (handles-has g.handles q h e));
        objects_done = λ p q here n. all q (has_right (handle_names g.handles) (named_by g order) q (by-has g order p q here (names-has n)));
      }

  one-more : (order : List ℕ) → Marking g order → (q : ℕ) → has (wanted order) q ≡ true → has order q ≡ false → Marking g (q ∷ order)
  unfolding wanted
  one-more order marking q e fresh =
      elim (has-cases (handle_names g.handles) (named_by g order) q e) [
        | inl f ↦ let r = has-handles g.handles q f in for_handle r.0 q marking fresh r.1
        | inr f ↦ let r = has-by g order q f in for_object r.0 q marking fresh r.1 (has-names (object_at g r.0) q r.2)
      ]

  go_on : (n : ℕ) (order : List ℕ) → Marking g order → left_in universe order ≤ n → (whole : List ℕ) × OrderOfMarking g whole
  go_on zero order marking l =
      elim (missing (wanted order) order) [
        | inl all ↦ (order, ended order marking all)
        | inr f ↦ absurd (omega (arith, l, left-less universe order f.0 (in-universe order f.0 f.1) f.2))
      ]
  go_on (suc n) order marking l =
      elim (missing (wanted order) order) [
        | inl all ↦ (order, ended order marking all)
        | inr f ↦
            go_on n (f.0 ∷ order) (one-more order marking f.0 f.1 f.2)
            (omega (arith, l, left-less universe order f.0 (in-universe order f.0 f.1) f.2))
      ]

pub order-exists : OrderExists
order-exists g = go_on g (left_in (universe g) []) [] none (omega arith)
