-- What was stored is read back.
use Rattle.std.proofs.Common.{◌≡◌, ℕ, ◌<◌, Bool, false, not, eqb, leb, List, [], ◌∷◌, length, get_or, set, pos, Ok, sym, refl, ap, ◌∙◌, subst, arith, length-set, get_or-set_same}
use Rattle.std.proofs.lemmas.Bool.{cond-false, ltb-false, leb-false, lt-leb, le-ltb}
use Rattle.scheme.specs.Meaning.{Meaning}
use Rattle.graph.specs.declared.Call.TheVariants.{Num, Load, Save, RawLoad, RawSave, Value as ValueOf}
use Rattle.graph.specs.declared.Refusal.TheVariants.{OtherKind}
use Rattle.graph.specs.Graph.{Value, empty, number, object, Cell, raw, value, Object, a_record, a_layout, a_map, Graph, held, object_at, hold, change}
use Rattle.graph.specs.Step.{Outcome, outcome, step, graph_after, row, judge, handle, ◌refuses◌, kind_of, object_kind, object_of, position_of, cells_of, raw_cell, cell_word, cell_value, number_of, with_cell}
use Rattle.graph.specs.Sound.{Sound}
use Rattle.graph.specs.ReadBack.{NumbersKept, RawWordsKept, ValuesKept}
use Rattle.graph.proofs.Stays.{granted, kind-object, object_of-named}
use Rattle.graph.proofs.Sound.{stands-below}
use Rattle.graph.proofs.Frame.{written-here}

-- Handles.

pub numbers-kept : NumbersKept
numbers-kept m W g s h n snd e =
    let p = (granted m W g (Num h n) (pos 0) e).0 in
    let lt = ltb-false 31 h p.0 in
    let now : held (hold g h (number n)) h ≡ number n = get_or-set_same g.handles h (number n) empty (omega (arith, snd.handles_32)) in
    ap (λ (o : Outcome). outcome m W (graph_after o g (row m W g (Num h n)).1) (ValueOf h)) e
    ∙ ap (λ (v : Value). judge (handle h 1 ∷ not (eqb (kind_of (hold g h (number n)) v) 1) refuses OtherKind 1 ∷ []) (Ok (number_of v))) now
    ∙ cond-false _ _ _ p.0

-- Fields. The record that handle o holds, with another cell as field i.

module _ (m : Meaning) (W : ℕ) (g : Graph) (s : List Bool) (snd : Sound m W g s) (o i : ℕ) (x : Cell) (kind : not (eqb (kind_of g (held g o)) 2) ≡ false) (inside : leb (length (cells_of (object_of g (held g o)))) i ≡ false) where
  abbrev g' : Graph
  g' = change g (position_of (held g o)) (with_cell (object_at g (position_of (held g o))) i x)

  named : held g o ≡ object (position_of (held g o))
  named = (kind-object m W g s snd (held g o) 2 kind (omega arith)).0

  below : position_of (held g o) < length g.objects
  below = omega (arith, stands-below s (position_of (held g o)) (snd.held_stands o (position_of (held g o)) named), snd.as_long)

  changed : object_of g' (held g o) ≡ with_cell (object_at g (position_of (held g o))) i x
  changed = ap (object_of g') named ∙ written-here g (position_of (held g o)) below i x

  kept-kind : (r : Object) → object_kind r ≡ 2 → object_kind (with_cell r i x) ≡ 2
  kept-kind (a_record l cells) k = refl
  kept-kind (a_layout c n) k = absurd (omega arith)
  kept-kind (a_map a n p) k = absurd (omega arith)

  kept-cells : (r : Object) → object_kind r ≡ 2 → cells_of (with_cell r i x) ≡ set (cells_of r) i x
  kept-cells (a_record l cells) k = refl
  kept-cells (a_layout c n) k = absurd (omega arith)
  kept-cells (a_map a n p) k = absurd (omega arith)

  kind-was : object_kind (object_at g (position_of (held g o))) ≡ 2
  kind-was = (kind-object m W g s snd (held g o) 2 kind (omega arith)).1

  kind-is : kind_of g' (held g o) ≡ 2
  kind-is = ap (kind_of g') named ∙ ap object_kind (written-here g (position_of (held g o)) below i x) ∙ kept-kind (object_at g (position_of (held g o))) kind-was

  cells_are : cells_of (object_of g' (held g o)) ≡ set (cells_of (object_at g (position_of (held g o)))) i x
  cells_are = ap cells_of changed ∙ kept-cells (object_at g (position_of (held g o))) kind-was

  was-inside : i < length (cells_of (object_at g (position_of (held g o))))
  was-inside = leb-false _ i (subst (λ (r : Object). leb (length (cells_of r)) i ≡ false) (object_of-named m W g s snd (held g o) named) inside)

  pub kind-passes : not (eqb (kind_of g' (held g o)) 2) ≡ false
  kind-passes = ap (λ (k : ℕ). not (eqb k 2)) kind-is

  pub field-passes : leb (length (cells_of (object_of g' (held g o)))) i ≡ false
  field-passes =
      let long : length (cells_of (object_of g' (held g o))) ≡ length (cells_of (object_at g (position_of (held g o)))) = ap length cells_are ∙ length-set (cells_of (object_at g (position_of (held g o)))) i x in
      lt-leb _ i (omega (arith, was-inside, long))

  pub cell-is : get_or (cells_of (object_of g' (held g o))) i (raw 0) ≡ x
  cell-is = ap (λ (xs : List Cell). get_or xs i (raw 0)) cells_are ∙ get_or-set_same (cells_of (object_at g (position_of (held g o)))) i x (raw 0) was-inside

pub raw-words-kept : RawWordsKept
raw-words-kept m W g s o i w snd e =
    let p = (granted m W g (RawSave o i w) (pos 0) e).0 in
    let kind = p.1.0 in
    let inside = p.1.1.0 in
    let cell = cell-is m W g s snd o i (raw w) kind inside in
    ap (λ (x : Outcome). outcome m W (graph_after x g (row m W g (RawSave o i w)).1) (RawLoad o i)) e
    ∙ cond-false _ _ _ p.0
    ∙ cond-false _ _ _ (kind-passes m W g s snd o i (raw w) kind inside)
    ∙ cond-false _ _ _ (field-passes m W g s snd o i (raw w) kind inside)
    ∙ cond-false _ _ _ (ap (λ (c : Cell). not (raw_cell c)) cell)
    ∙ ap {B = Outcome} (λ (c : Cell). Ok (pos (cell_word c))) cell

pub values-kept : ValuesKept
values-kept m W g s o i v d snd small e =
    let p = (granted m W g (Save o i v) (pos 0) e).0 in
    let kind = p.1.1.0 in
    let inside = p.1.1.1.0 in
    let x = value (held g v) in
    let g₁ = change g (position_of (held g o)) (with_cell (object_at g (position_of (held g o))) i x) in
    let cell = cell-is m W g s snd o i x kind inside in
    let saved : (step m W (Save o i v) g).1 ≡ g₁ = ap (λ (y : Outcome). graph_after y g (row m W g (Save o i v)).1) e in
    let loads : outcome m W g₁ (Load d o i) ≡ Ok (pos 0) =
    cond-false _ _ _ (le-ltb 31 d (omega arith))
    ∙ cond-false _ _ _ p.0
    ∙ cond-false _ _ _ (kind-passes m W g s snd o i x kind inside)
    ∙ cond-false _ _ _ (field-passes m W g s snd o i x kind inside)
    ∙ cond-false _ _ _ (ap raw_cell cell) in
    let takes : held (step m W (Load d o i) g₁).1 d ≡ held g v =
    ap (λ (y : Outcome). held (graph_after y g₁ (row m W g₁ (Load d o i)).1) d) loads
    ∙ get_or-set_same g.handles d _ empty (omega (arith, snd.handles_32))
    ∙ ap cell_value cell in
    subst (λ (k : Graph). (outcome m W k (Load d o i) ≡ Ok (pos 0)) × (held (step m W (Load d o i) k).1 d ≡ held g v)) (sym saved) (loads, takes)
