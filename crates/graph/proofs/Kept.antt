-- What was stored stays until it is overwritten.
use Rattle.std.proofs.Common.{◌≡◌, ℕ, zero, suc, ◌+◌, ◌-◌, ◌<◌, ◌≤◌, Bool, true, false, cond, not, ltb, leb, eqb, List, [], ◌∷◌, length, get_or, set, take, ℤ, pos, Option, Some, Ok, Err, sym, refl, ap, ◌∙◌, subst, inl, inr, arith, length-set, get_or-set_same}
use Rattle.std.specs.List.{slice_get}
use Rattle.std.proofs.lemmas.Bool.{cond-false, cases_eq, cases_lt, eqb-true, not-false, ltb-false, leb-false, lt-leb, le-ltb}
use Rattle.std.proofs.lemmas.List.{get_or-set_other, get_or_append_left, get_or_past, length_push, take_all}
use Rattle.std.proofs.lemmas.Option.{slice_get-get_or}
use Rattle.scheme.specs.Meaning.{Meaning}
use Rattle.graph.specs.declared.Call.{Call}
use Rattle.graph.specs.declared.Call.TheVariants.{Num, Clear, Copy, Map, Layout, Record, Load, Save, RawLoad, RawSave, Kind, Value as ValueOf, Same, Part, Figure, Raws, Collect, Fill, Stepped, GivenUp}
use Rattle.graph.specs.declared.Refusal.TheVariants.{OtherKind}
use Rattle.graph.specs.Graph.{Value, empty, number, object, Cell, raw, value, Object, a_record, a_layout, a_map, Graph, held, object_at, hold, make, change}
use Rattle.graph.specs.Step.{Act, sets, makes, writes, tells, collects, ◌refuses◌, judge, Outcome, outcome, step, run, row, after, graph_after, kind_of, object_kind, object_of, position_of, cells_of, raw_cell, cell_word, cell_value, cell_in, with_cell, same_value, number_of}
use Rattle.graph.specs.Advance.{State, advance}
use Rattle.graph.specs.Sound.{Sound}
use Rattle.graph.specs.Kept.{SetsHandle, by_num, by_clear, by_copy, by_map, by_layout, by_record, by_load, by_part, WritesField, by_save, by_rawsave, graph_at, Answers, Granted, Unset, Unwritten, RawAsked, ValueAsked, StoredStays}
use Rattle.graph.proofs.Stays.{granted, kind-object, stays-sound}
use Rattle.graph.proofs.Sound.{stands-below, no-object}
use Rattle.graph.proofs.Frame.{written-here}
use Rattle.graph.proofs.Laws.{value-self}

-- A list of calls, call by call.

module _ (m : Meaning) (W : ℕ) where
  -- what call n is answered
  answer-at : (calls : List Call) (n : ℕ) (c : Call) (g : Graph) → slice_get calls n ≡ Some c → slice_get (run m W calls g).0 n ≡ Some (outcome m W (run m W (take n calls) g).1 c)
  answer-at [] n c g e = let z : ◌≡◌ {A = ℕ} 0 1 = cc in absurd (omega arith)
  answer-at (d ∷ ds) zero c g e = let same : d ≡ c = cc in ap (λ (x : Call). Some (outcome m W g x)) same
  answer-at (d ∷ ds) (suc n) c g e = answer-at ds n c (step m W d g).1 e

  -- the graph behind call n
  behind : (calls : List Call) (n : ℕ) (c : Call) (g : Graph) → slice_get calls n ≡ Some c → (run m W (take (suc n) calls) g).1 ≡ (step m W c (run m W (take n calls) g).1).1
  behind [] n c g e = let z : ◌≡◌ {A = ℕ} 0 1 = cc in absurd (omega arith)
  behind (d ∷ ds) zero c g e = let same : d ≡ c = cc in ap (λ (x : Call). (step m W x g).1) same
  behind (d ∷ ds) (suc n) c g e = behind ds n c (step m W d g).1 e

  -- every graph on the way is sound
  sound-behind : (calls : List Call) (g : Graph) (s : List Bool) → Sound m W g s → (t : List Bool) × Sound m W (run m W calls g).1 t
  sound-behind [] g s snd = (s, snd)
  sound-behind (c ∷ cs) g s snd =
      let st : State = record { graph = g; standing = s } in
      let next = (advance m W c st).1 in
      sound-behind cs next.graph next.standing ((stays-sound m W).1 c st snd)

-- What one call leaves.

pub record Holding (g : Graph) (q i : ℕ) (x : Cell) : Type 0 where
  pub below : q < length g.objects
  pub kind : object_kind (object_at g q) ≡ 2
  pub inside : i < length (cells_of (object_at g q))
  pub cell : get_or (cells_of (object_at g q)) i (raw 0) ≡ x

-- what the call does writes another field than i of the object at position q, or none
abbrev LeavesField : ℕ → ℕ → Act → Type 0
LeavesField q i (sets h v) = Unit {0}
LeavesField q i (makes d o) = Unit {0}
LeavesField q i (writes p f x) = p ≡ q → f ≡ i → ⊥
LeavesField q i (tells n) = Unit {0}
LeavesField q i collects = Unit {0}

-- or sets another handle than h, or none
abbrev LeavesHandle : ℕ → Act → Type 0
LeavesHandle h (sets d v) = d ≡ h → ⊥
LeavesHandle h (makes d o) = d ≡ h → ⊥
LeavesHandle h (writes p f x) = Unit {0}
LeavesHandle h (tells n) = Unit {0}
LeavesHandle h collects = Unit {0}

with-kind : (r : Object) (i : ℕ) (x : Cell) → object_kind (with_cell r i x) ≡ object_kind r
with-kind (a_record l cells) i x = refl
with-kind (a_layout c n) i x = refl
with-kind (a_map a n p) i x = refl

with-cells : (r : Object) (i : ℕ) (x : Cell) → object_kind r ≡ 2 → cells_of (with_cell r i x) ≡ set (cells_of r) i x
with-cells (a_record l cells) i x k = refl
with-cells (a_layout c n) i x k = absurd (omega arith)
with-cells (a_map a n p) i x k = absurd (omega arith)

module _ (g : Graph) (q i : ℕ) (x : Cell) where
  -- the object at q is the same one
  same-object : (g' : Graph) → length g.objects ≤ length g'.objects → object_at g' q ≡ object_at g q → Holding g q i x → Holding g' q i x
  same-object g' long same h =
      record {
        below = omega (arith, h.below);
        kind = ap object_kind same ∙ h.kind;
        inside = subst (λ (r : Object). i < length (cells_of r)) (sym same) h.inside;
        cell = ap (λ (r : Object). get_or (cells_of r) i (raw 0)) same ∙ h.cell;
      }

  -- field f of it is written
  field-written : (f : ℕ) (y : Cell) → q < length g.objects → object_kind (object_at g q) ≡ 2 → i < length (cells_of (object_at g q)) → get_or (set (cells_of (object_at g q)) f y) i (raw 0) ≡ x → Holding (change g q (with_cell (object_at g q) f y)) q i x
  field-written f y lt k l e =
      let is = written-here g q lt f y in
      let cells : cells_of (object_at (change g q (with_cell (object_at g q) f y)) q) ≡ set (cells_of (object_at g q)) f y = ap cells_of is ∙ with-cells (object_at g q) f y k in
      record {
        below = omega (arith, length-set g.objects q (with_cell (object_at g q) f y));
        kind = ap object_kind is ∙ with-kind (object_at g q) f y ∙ k;
        inside = omega (arith, ap length cells, length-set (cells_of (object_at g q)) f y);
        cell = ap (λ (xs : List Cell). get_or xs i (raw 0)) cells ∙ e;
      }

  act-leaves : (act : Act) → LeavesField q i act → Holding g q i x → Holding (after g act) q i x
  act-leaves (sets d v) free h = same-object (hold g d v) (omega arith) refl h
  act-leaves (makes d o) free h = same-object (make g d o) (omega (arith, length_push g.objects o)) (get_or_append_left g.objects (o ∷ []) (a_map 0 empty empty) q h.below) h
  act-leaves (writes p f y) free h =
      elim (cases_eq p q) [
        | inl e ↦
            subst (λ (j : ℕ). Holding (change g j (with_cell (object_at g j) f y)) q i x) (sym e)
            (field-written f y h.below h.kind h.inside (get_or-set_other (cells_of (object_at g q)) f i y (raw 0) (λ same. free e (sym same)) ∙ h.cell))
        | inr ne ↦
            same-object (change g p (with_cell (object_at g p) f y)) (omega (arith, length-set g.objects p (with_cell (object_at g p) f y)))
            (get_or-set_other g.objects p q _ _ (λ same. ne (sym same))) h
      ]
  act-leaves (tells n) free h = h
  act-leaves collects free h = h

act-leaves-handle : (g : Graph) (h : ℕ) (act : Act) → LeavesHandle h act → held (after g act) h ≡ held g h
act-leaves-handle g h (sets d v) free = get_or-set_other g.handles d h v empty (λ same. free (sym same))
act-leaves-handle g h (makes d o) free = get_or-set_other g.handles d h _ empty (λ same. free (sym same))
act-leaves-handle g h (writes p f y) free = refl
act-leaves-handle g h (tells n) free = refl
act-leaves-handle g h collects free = refl

module _ (m : Meaning) (W : ℕ) (g : Graph) (s : List Bool) (snd : Sound m W g s) where
  record-named : (v : Value) → not (eqb (kind_of g v) 2) ≡ false → v ≡ object (position_of v)
  record-named v e = (kind-object m W g s snd v 2 e (omega arith)).0

  call-leaves : (q i : ℕ) (c : Call) (n : ℤ) → outcome m W g c ≡ Ok n → (WritesField g c q i → ⊥) → LeavesField q i (row m W g c).1
  call-leaves q i (Num h k) n e free = tt
  call-leaves q i (Clear h) n e free = tt
  call-leaves q i (Copy d o) n e free = tt
  call-leaves q i (Map d r k p) n e free = tt
  call-leaves q i (Layout d c k) n e free = tt
  call-leaves q i (Record d l) n e free = tt
  call-leaves q i (Load d o f) n e free = tt
  call-leaves q i (Save o f v) n e free =
      λ here field. free (subst (λ (j : ℕ). WritesField g (Save o f v) q j) field (by_save (record-named (held g o) (granted m W g (Save o f v) n e).0.1.1.0 ∙ ap object here)))
  call-leaves q i (RawLoad o f) n e free = tt
  call-leaves q i (RawSave o f w) n e free =
      λ here field. free (subst (λ (j : ℕ). WritesField g (RawSave o f w) q j) field (by_rawsave (record-named (held g o) (granted m W g (RawSave o f w) n e).0.1.0 ∙ ap object here)))
  call-leaves q i (Kind h) n e free = tt
  call-leaves q i (ValueOf h) n e free = tt
  call-leaves q i (Same a b) n e free = tt
  call-leaves q i (Part d o k) n e free = tt
  call-leaves q i (Figure h) n e free = tt
  call-leaves q i (Raws h) n e free = tt
  call-leaves q i Collect n e free = tt
  call-leaves q i Fill n e free = tt
  call-leaves q i Stepped n e free = tt
  call-leaves q i GivenUp n e free = tt

call-leaves-handle : (m : Meaning) (W : ℕ) (g : Graph) (h : ℕ) (c : Call) → (SetsHandle c h → ⊥) → LeavesHandle h (row m W g c).1
call-leaves-handle m W g h (Num d k) free = λ e. free (subst (SetsHandle (Num d k)) e by_num)
call-leaves-handle m W g h (Clear d) free = λ e. free (subst (SetsHandle (Clear d)) e by_clear)
call-leaves-handle m W g h (Copy d o) free = λ e. free (subst (SetsHandle (Copy d o)) e by_copy)
call-leaves-handle m W g h (Map d r k p) free = λ e. free (subst (SetsHandle (Map d r k p)) e by_map)
call-leaves-handle m W g h (Layout d c k) free = λ e. free (subst (SetsHandle (Layout d c k)) e by_layout)
call-leaves-handle m W g h (Record d l) free = λ e. free (subst (SetsHandle (Record d l)) e by_record)
call-leaves-handle m W g h (Load d o f) free = λ e. free (subst (SetsHandle (Load d o f)) e by_load)
call-leaves-handle m W g h (Save o f v) free = tt
call-leaves-handle m W g h (RawLoad o f) free = tt
call-leaves-handle m W g h (RawSave o f w) free = tt
call-leaves-handle m W g h (Kind d) free = tt
call-leaves-handle m W g h (ValueOf d) free = tt
call-leaves-handle m W g h (Same a b) free = tt
call-leaves-handle m W g h (Part d o k) free = λ e. free (subst (SetsHandle (Part d o k)) e by_part)
call-leaves-handle m W g h (Figure d) free = tt
call-leaves-handle m W g h (Raws d) free = tt
call-leaves-handle m W g h Collect free = tt
call-leaves-handle m W g h Fill free = tt
call-leaves-handle m W g h Stepped free = tt
call-leaves-handle m W g h GivenUp free = tt

-- A field that a granted call wrote, and a field that is read.

module _ (m : Meaning) (W : ℕ) (g : Graph) (s : List Bool) (snd : Sound m W g s) (o q : ℕ) (names : held g o ≡ object q) where
  just-written : (i : ℕ) (x : Cell) → not (eqb (kind_of g (held g o)) 2) ≡ false → leb (length (cells_of (object_of g (held g o)))) i ≡ false → Holding (change g (position_of (held g o)) (with_cell (object_at g (position_of (held g o))) i x)) q i x
  just-written i x kind field =
      let below : q < length g.objects = omega (arith, stands-below s q (snd.held_stands o q names), snd.as_long) in
      let is : object_kind (object_at g q) ≡ 2 = eqb-true (object_kind (object_at g q)) 2 (not-false _ (subst (λ (v : Value). not (eqb (kind_of g v) 2) ≡ false) names kind)) in
      let inside : i < length (cells_of (object_at g q)) = leb-false _ i (subst (λ (v : Value). leb (length (cells_of (object_of g v))) i ≡ false) names field) in
      subst (λ (v : Value). Holding (change g (position_of v) (with_cell (object_at g (position_of v)) i x)) q i x) (sym names)
      (field-written g q i x i x below is inside (get_or-set_same (cells_of (object_at g q)) i x (raw 0) inside))

  handle-below : o ≤ 31
  handle-below =
      elim (cases_lt 31 o) [
        | inl l ↦
            let past : held g o ≡ empty = get_or_past g.handles o empty (omega (arith, snd.handles_32)) in
            absurd (no-object q (sym past ∙ names))
        | inr l ↦ l
      ]

  module _ (i : ℕ) (x : Cell) (h : Holding g q i x) where
    reads-kind : not (eqb (kind_of g (held g o)) 2) ≡ false
    reads-kind = ap (λ (v : Value). not (eqb (kind_of g v) 2)) names ∙ ap (λ (k : ℕ). not (eqb k 2)) h.kind

    reads-field : leb (length (cells_of (object_of g (held g o)))) i ≡ false
    reads-field = ap (λ (v : Value). leb (length (cells_of (object_of g v))) i) names ∙ lt-leb _ i h.inside

    reads-cell : cell_in g o i ≡ x
    reads-cell = ap (λ (v : Value). get_or (cells_of (object_of g v)) i (raw 0)) names ∙ h.cell

    handle-passes : ltb 31 o ≡ false
    handle-passes = le-ltb 31 o handle-below

  reads-raw : (i w : ℕ) → Holding g q i (raw w) → outcome m W g (RawLoad o i) ≡ Ok (pos w)
  reads-raw i w h =
      cond-false _ _ _ (handle-passes i (raw w) h)
      ∙ cond-false _ _ _ (reads-kind i (raw w) h)
      ∙ cond-false _ _ _ (reads-field i (raw w) h)
      ∙ cond-false _ _ _ (ap (λ (c : Cell). not (raw_cell c)) (reads-cell i (raw w) h))
      ∙ ap {B = Outcome} (λ (c : Cell). Ok (pos (cell_word c))) (reads-cell i (raw w) h)

  reads-value : (d i : ℕ) (v : Value) → d ≤ 31 → Holding g q i (value v) → outcome m W g (Load d o i) ≡ Ok (pos 0)
  reads-value d i v small h =
      cond-false _ _ _ (le-ltb 31 d small)
      ∙ cond-false _ _ _ (handle-passes i (value v) h)
      ∙ cond-false _ _ _ (reads-kind i (value v) h)
      ∙ cond-false _ _ _ (reads-field i (value v) h)
      ∙ cond-false _ _ _ (ap raw_cell (reads-cell i (value v) h))

  takes-value : (d i : ℕ) (v : Value) → d ≤ 31 → Holding g q i (value v) → held (hold g d (cell_value (cell_in g o i))) d ≡ v
  takes-value d i v small h =
      get_or-set_same g.handles d _ empty (omega (arith, snd.handles_32)) ∙ ap cell_value (reads-cell i (value v) h)

-- Handles that are asked.

module _ (m : Meaning) (W : ℕ) (g : Graph) where
  reads_number : (h : ℕ) (n : ℤ) → ltb 31 h ≡ false → held g h ≡ number n → outcome m W g (ValueOf h) ≡ Ok n
  reads_number h n small e =
      cond-false _ _ _ small
      ∙ ap (λ (v : Value). judge (not (eqb (kind_of g v) 1) refuses OtherKind 1 ∷ []) (Ok (number_of v))) e

  reads-same : (a b : ℕ) → ltb 31 a ≡ false → ltb 31 b ≡ false → held g a ≡ held g b → outcome m W g (Same a b) ≡ Ok (pos 1)
  reads-same a b small_a small_b e =
      let same : same_value (held g a) (held g b) ≡ true = ap (λ (v : Value). same_value v (held g b)) e ∙ value-self (held g b) in
      cond-false _ _ _ small_a
      ∙ cond-false _ _ _ small_b
      ∙ ap {B = Outcome} (λ (t : Bool). Ok (pos (cond t 1 0))) same

-- From call j on, up to call k.

module _ (m : Meaning) (W : ℕ) where
  by-outcome : (P : Graph → Type 0) (g : Graph) (act : Act) (out : Outcome) → P g → ((n : ℤ) → out ≡ Ok n → P (after g act)) → P (graph_after out g act)
  by-outcome P g act (Ok n) here then = then n refl
  by-outcome P g act (Err r) here then = here

  module _ (g : Graph) (calls : List Call) where
    abbrev at : ℕ → Graph
    at n = graph_at m W g calls n

    abbrev outs : List Outcome
    outs = (run m W calls g).0

    abbrev Told : ℕ → Call → Type 0
    Told n c = Granted m W g calls outs n c

    abbrev Free : (j k h : ℕ) → Type 0
    Free = Unset m W g calls outs

    abbrev Spared : (j k q i : ℕ) → Type 0
    Spared = Unwritten m W g calls outs

    abbrev Answered : ℕ → ℤ → Type 0
    Answered = Answers m W g calls outs

    answered : (n : ℕ) (c : Call) (out : Outcome) → slice_get calls n ≡ Some c → outcome m W (at n) c ≡ out → slice_get outs n ≡ Some out
    answered n c out is e = answer-at m W calls n c g is ∙ ap {B = Option Outcome} (λ (o : Outcome). Some o) e

    was-granted : (n : ℕ) (c : Call) → Told n c → (a : ℤ) × (outcome m W (at n) c ≡ Ok a)
    was-granted n c told =
        let e : Some (outcome m W (at n) c) ≡ Some (Ok told.1.0) = sym (answer-at m W calls n c g told.0) ∙ told.1.1 in
        (told.1.0, cc)

    -- the graph behind call n, where it was granted
    behind-granted : (n : ℕ) (c : Call) → Told n c → at (suc n) ≡ after (at n) (row m W (at n) c).1
    behind-granted n c told = behind m W calls n c g told.0 ∙ ap (λ (o : Outcome). graph_after o (at n) (row m W (at n) c).1) (was-granted n c told).1

    -- what each granted call leaves is left by all
    one : (P : Graph → Type 0) (n : ℕ) → ((c : Call) (a : ℤ) → Told n c → outcome m W (at n) c ≡ Ok a → P (at n) → P (after (at n) (row m W (at n) c).1)) → P (at n) → P (at (suc n))
    one P n left here =
        elim (cases_lt n (length calls)) [
          | inl l ↦
              let c = get_or calls n Collect in
              let is = slice_get-get_or calls n Collect l in
              subst P (sym (behind m W calls n c g is))
              (by-outcome P (at n) (row m W (at n) c).1 (outcome m W (at n) c) here (λ a e. left c a (is, (a, answered n c (Ok a) is e)) e here))
          | inr l ↦ subst P (ap (λ (cs : List Call). (run m W cs g).1) (take_all n calls l ∙ sym (take_all (suc n) calls (omega arith)))) here
        ]

    all : (P : Graph → Type 0) (n d : ℕ) → ((k : ℕ) (c : Call) (a : ℤ) → n ≤ k → k < n + d → Told k c → outcome m W (at k) c ≡ Ok a → P (at k) → P (after (at k) (row m W (at k) c).1)) → P (at n) → P (at (n + d))
    all P n zero left here = let e : n ≡ n + 0 = omega arith in subst (λ (k : ℕ). P (at k)) e here
    all P n (suc d) left here =
        let e : suc (n + d) ≡ n + suc d = omega arith in
        subst (λ (k : ℕ). P (at k)) e
        (one P (n + d) (λ c a. left (n + d) c a (omega arith) (omega arith)) (all P n d (λ k c a l r. left k c a l (omega arith)) here))

    up-to : (P : Graph → Type 0) (n k : ℕ) → n ≤ k → ((i : ℕ) (c : Call) (a : ℤ) → n ≤ i → i < k → Told i c → outcome m W (at i) c ≡ Ok a → P (at i) → P (after (at i) (row m W (at i) c).1)) → P (at n) → P (at k)
    up-to P n k le left here =
        let e : n + (k - n) ≡ k = omega arith in
        subst (λ (j : ℕ). P (at j)) e (all P n (k - n) (λ i c a l r. left i c a l (omega arith)) here)

    module _ (s : List Bool) (snd : Sound m W g s) where
      sound-at : (n : ℕ) → (t : List Bool) × Sound m W (at n) t
      sound-at n = sound-behind m W (take n calls) g s snd

      -- a handle behind a call that is granted and does not set it, and so up to call k
      pub handle-kept : (j k h : ℕ) → j < k → Free j k h → held (at k) h ≡ held (at (suc j)) h
      handle-kept j k h l unset =
          up-to (λ x. held x h ≡ held (at (suc j)) h) (suc j) k (omega arith)
          (λ i c a low high told e here. act-leaves-handle (at i) h (row m W (at i) c).1 (call-leaves-handle m W (at i) h c (unset i c (omega arith) high told)) ∙ here) refl

      pub field-kept : (j k q i : ℕ) (x : Cell) → j < k → Spared j k q i → Holding (at (suc j)) q i x → Holding (at k) q i x
      field-kept j k q i x l unwritten here =
          up-to (λ y. Holding y q i x) (suc j) k (omega arith)
          (λ n c a low high told e h.
          let t = sound-at n in
          act-leaves (at n) q i x (row m W (at n) c).1 (call-leaves m W (at n) t.0 t.1 q i c a e (unwritten n c (omega arith) high told)) h)
          here

      -- what a granted call wrote is there up to call k
      raw-there : (j k q i w o : ℕ) → j < k → Told j (RawSave o i w) → held (at j) o ≡ object q → Spared j k q i → Holding (at k) q i (raw w)
      raw-there j k q i w o l told names unwritten =
          let t = sound-at j in
          let ok = (granted m W (at j) (RawSave o i w) _ (was-granted j _ told).1).0 in
          field-kept j k q i (raw w) l unwritten
          (subst (λ (x : Graph). Holding x q i (raw w)) (sym (behind-granted j _ told)) (just-written m W (at j) t.0 t.1 o q names i (raw w) ok.1.0 ok.1.1.0))

      value-there : (j k q i v o : ℕ) → j < k → Told j (Save o i v) → held (at j) o ≡ object q → Spared j k q i → Holding (at k) q i (value (held (at j) v))
      value-there j k q i v o l told names unwritten =
          let t = sound-at j in
          let x = value (held (at j) v) in
          let ok = (granted m W (at j) (Save o i v) _ (was-granted j _ told).1).0 in
          field-kept j k q i x l unwritten
          (subst (λ (y : Graph). Holding y q i x) (sym (behind-granted j _ told)) (just-written m W (at j) t.0 t.1 o q names i x ok.1.1.0 ok.1.1.1.0))

      raw-back : (j k q i w : ℕ) → RawAsked m W g calls outs j k q i w → Answered k (pos w)
      raw-back j k q i w asked =
          let t = sound-at k in
          answered k (RawLoad asked.p i) (Ok (pos w)) asked.loads
          (reads-raw m W (at k) t.0 t.1 asked.p q asked.loads_from i w (raw-there j k q i w asked.o asked.later asked.saved asked.saved_in asked.unwritten))

      module _ (j k q i v d : ℕ) (asked : ValueAsked m W g calls outs j k q i v d) where
        there : Holding (at k) q i (value (held (at j) v))
        there = value-there j k q i v asked.o asked.later asked.saved asked.saved_in asked.unwritten

        loaded : outcome m W (at k) (Load d asked.p i) ≡ Ok (pos 0)
        loaded = let t = sound-at k in reads-value m W (at k) t.0 t.1 asked.p q asked.loads_from d i (held (at j) v) asked.target there

        value-back : Answered k (pos 0)
        value-back = answered k (Load d asked.p i) (Ok (pos 0)) asked.loads loaded

        value-taken : held (at (suc k)) d ≡ held (at j) v
        value-taken =
            let t = sound-at k in
            ap (λ (x : Graph). held x d) (behind-granted k (Load d asked.p i) (asked.loads, (pos 0, value-back)))
            ∙ takes-value m W (at k) t.0 t.1 asked.p q asked.loads_from d i (held (at j) v) asked.target there

        later-taken : (l : ℕ) → k < l → Free k l d → held (at l) d ≡ held (at j) v
        later-taken l low unset = handle-kept k l d low unset ∙ value-taken

        saved-number : (l : ℕ) (n : ℤ) → held (at j) v ≡ number n → k < l → Free k l d → slice_get calls l ≡ Some (ValueOf d) → Answered l n
        saved-number l n is low unset call =
            answered l (ValueOf d) (Ok n) call (reads_number m W (at l) d n (le-ltb 31 d asked.target) (later-taken l low unset ∙ is))

        -- the handle that was saved still holds it
        still-held : (l : ℕ) → j < l → Free j l v → held (at l) v ≡ held (at j) v
        still-held l low unset = handle-kept j l v low unset ∙ ap (λ (x : Graph). held x v) (behind-granted j _ asked.saved)

        saved-same : (l : ℕ) → k < l → Free k l d → Free j l v → slice_get calls l ≡ Some (Same d v) → Answered l (pos 1)
        saved-same l low unset source call =
            let ok = (granted m W (at j) (Save asked.o i v) _ (was-granted j _ asked.saved).1).0 in
            answered l (Same d v) (Ok (pos 1)) call
            (reads-same m W (at l) d v (le-ltb 31 d asked.target) ok.1.0 (later-taken l low unset ∙ sym (still-held l (omega (arith, asked.later)) source)))

      number-back : (j k h : ℕ) (n : ℤ) → j < k → Told j (Num h n) → Free j k h → slice_get calls k ≡ Some (ValueOf h) → Answered k n
      number-back j k h n l told unset call =
          let t = sound-at j in
          let ok = (granted m W (at j) (Num h n) _ (was-granted j _ told).1).0 in
          let low = ltb-false 31 h ok.0 in
          let taken : held (hold (at j) h (number n)) h ≡ number n = get_or-set_same (at j).handles h (number n) empty (omega (arith, t.1.handles_32)) in
          answered k (ValueOf h) (Ok n) call
          (reads_number m W (at k) h n ok.0 (handle-kept j k h l unset ∙ ap (λ (x : Graph). held x h) (behind-granted j _ told) ∙ taken))

      copy-back : (j k d o : ℕ) → j < k → Told j (Copy d o) → Free j k d → Free j k o → slice_get calls k ≡ Some (Same d o) → Answered k (pos 1)
      copy-back j k d o l told unset source call =
          let t = sound-at j in
          let ok = (granted m W (at j) (Copy d o) _ (was-granted j _ told).1).0 in
          let low = ltb-false 31 d ok.0 in
          let x = hold (at j) d (held (at j) o) in
          let target : held x d ≡ held (at j) o = get_or-set_same (at j).handles d _ empty (omega (arith, t.1.handles_32)) in
          let same : held x d ≡ held x o =
          elim (cases_eq o d) [ inl e ↦ ap (held x) (sym e) | inr ne ↦ target ∙ sym (get_or-set_other (at j).handles d o _ empty ne) ]
          in
          let both = λ (h : ℕ) (un : Free j k h). handle-kept j k h l un ∙ ap (λ (y : Graph). held y h) (behind-granted j _ told) in
          answered k (Same d o) (Ok (pos 1)) call (reads-same m W (at k) d o ok.0 ok.1.0 (both d unset ∙ same ∙ sym (both o source)))

pub stored-stays : StoredStays
stored-stays m W g s calls snd =
    record {
      handles = handle-kept m W g calls s snd;
      numbers = number-back m W g calls s snd;
      copies = copy-back m W g calls s snd;
      raw_fields = raw-back m W g calls s snd;
      value_fields = λ j k q i v d asked. (value-back m W g calls s snd j k q i v d asked, value-taken m W g calls s snd j k q i v d asked);
      saved_numbers = λ j k l q i v d n asked is. saved-number m W g calls s snd j k q i v d asked l n is;
      saved_values = λ j k l q i v d asked. saved-same m W g calls s snd j k q i v d asked l;
    }
