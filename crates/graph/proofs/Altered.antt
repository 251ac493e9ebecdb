-- Which words differ after a call.
use Rattle.std.proofs.Common.{◌≡◌, ℕ, ◌+◌, ◌*◌, ◌<◌, ◌≤◌, Bool, true, false, cond, not, eqb, ltb, leb, List, [], ◌∷◌, ◌++◌, map, length, get_or, set, ℤ, Ok, sym, refl, ap, ◌∙◌, subst, ap₂, inl, inr, arith}
use Rattle.std.proofs.lemmas.Bool.{cond-true, cond-false, lt-ltb, le-ltb, leb-false, false≢true}
use Rattle.scheme.specs.Meaning.{Meaning}
use Rattle.graph.specs.declared.Call.{Call}
use Rattle.graph.specs.declared.Call.TheVariants.{Num, Clear, Copy, Map, Layout, Record, Load, Save, RawLoad, RawSave, Kind, Value as ValueOf, Same, Part, Figure, Raws, Collect, Fill, Stepped, GivenUp}
use Rattle.graph.specs.declared.Refusal.{Refusal}
use Rattle.graph.specs.declared.Refusal.TheVariants.{NoHandle, NoNumber, TooWide, NoPart, NoRule, OtherKind, NoField, OtherField, Full}
use Rattle.graph.specs.Graph.{object, Cell, raw, value, Object, a_record, a_layout, a_map, Graph, held, object_at, size, is_record, make, change}
use Rattle.graph.specs.Reach.{Names, reachable, words_of, live_words}
use Rattle.graph.specs.Step.{Act, sets, makes, writes, tells, collects, row, full, Outcome, outcome, graph_after, position_of, object_in, cells_of, kind_of, with_cell}
use Rattle.graph.specs.Words.{between, place_of, reference, value_word, field_word, object_words, image, handle_words, put}
use Rattle.graph.specs.Advance.{State, advance, cleared, standing_refused, standing_by, memory_words, handles_words}
use Rattle.graph.specs.Sound.{Sound}
use Rattle.graph.specs.Altered.{WithNew, Unaltered, PackedAs, Altered, CallsAlter}
use Rattle.graph.proofs.Stays.{Passed, granted, room-made, kind-object, kind-record, object_of-named, fresh-names}
use Rattle.graph.proofs.Sound.{stands-below, names-out}
use Rattle.graph.proofs.Rests.{write-handle}
use Rattle.graph.proofs.Frame.{written-shaped, same-reference, write-field}
use Rattle.graph.proofs.Grow.{Within, allocated, new-place, new-object, new-handles}

-- What is altered, by what the call does.

module _ (m : Meaning) (W : ℕ) (g : Graph) (s : List Bool) (snd : Sound m W g s) where
  below : (q : ℕ) → get_or s q false ≡ true → q < length g.objects
  below q e = omega (arith, stands-below s q e, snd.as_long)

  held_below : (h q : ℕ) → held g h ≡ object q → q < length g.objects
  held_below h q e = below q (snd.held_stands h q e)

  -- a new object names older ones
  abbrev NewNames : Act → Type 0
  NewNames (sets h v) = Unit {0}
  NewNames (makes d o) = (q : ℕ) → Names o q → q < length g.objects
  NewNames (writes q i x) = Unit {0}
  NewNames (tells n) = Unit {0}
  NewNames collects = Unit {0}

  new-names : (c : Call) → Passed (row m W g c).0 → NewNames (row m W g c).1
  new-names (Num h n) ok = tt
  new-names (Clear h) ok = tt
  new-names (Copy d o) ok = tt
  new-names (Map d r n p) ok = λ q h. elim (names-out h) [ inl e ↦ held_below n q e | inr e ↦ held_below p q e ]
  new-names (Layout d c n) ok =
      let k = kind-object m W g s snd (held g n) 4 ok.1.1.1.0 (omega arith) in
      λ q h. held_below n q (k.0 ∙ ap object (names-out h))
  new-names (Record d l) ok =
      let k = kind-object m W g s snd (held g l) 3 ok.1.1.0 (omega arith) in
      λ q h. held_below l q (k.0 ∙ ap object (fresh-names m g (position_of (held g l)) (object_in g l) q h))
  new-names (Load d o i) ok = tt
  new-names (Save o i v) ok = tt
  new-names (RawLoad o i) ok = tt
  new-names (RawSave o i w) ok = tt
  new-names (Kind h) ok = tt
  new-names (ValueOf h) ok = tt
  new-names (Same a b) ok = tt
  new-names (Part d o k) ok = tt
  new-names (Figure h) ok = tt
  new-names (Raws h) ok = tt
  new-names Collect ok = tt
  new-names Fill ok = tt
  new-names Stepped ok = tt
  new-names GivenUp ok = tt

  -- a written field is one of a standing record
  abbrev GoodField : Act → Type 0
  GoodField (sets h v) = Unit {0}
  GoodField (makes d o) = Unit {0}
  GoodField (writes q i x) = (get_or s q false ≡ true) × (is_record (object_at g q) ≡ true) × (2 + i < size (object_at g q))
  GoodField (tells n) = Unit {0}
  GoodField collects = Unit {0}

  record-inside : (o : Object) (i : ℕ) → is_record o ≡ true → leb (length (cells_of o)) i ≡ false → 2 + i < size o
  record-inside (a_record l cells) i r t = let lt = leb-false (length cells) i t in omega (arith, lt)
  record-inside (a_layout c n) i r t = absurd (false≢true r)
  record-inside (a_map x n p) i r t = absurd (false≢true r)

  field-inside : (h i : ℕ) → not (eqb (kind_of g (held g h)) 2) ≡ false → leb (length (cells_of (object_in g h))) i ≡ false → (x : Cell) → GoodField (writes (position_of (held g h)) i x)
  field-inside h i k l x =
      let v = held g h in
      let is = kind-object m W g s snd v 2 k (omega arith) in
      let rec = kind-record m W g s snd (object_at g (position_of v)) is.1 in (
        snd.held_stands h (position_of v) is.0,
        rec,
        record-inside (object_at g (position_of v)) i rec (subst (λ (o : Object). leb (length (cells_of o)) i ≡ false) (object_of-named m W g s snd v is.0) l),
      )

  good-field : (c : Call) → Passed (row m W g c).0 → GoodField (row m W g c).1
  good-field (Num h n) ok = tt
  good-field (Clear h) ok = tt
  good-field (Copy d o) ok = tt
  good-field (Map d r n p) ok = tt
  good-field (Layout d c n) ok = tt
  good-field (Record d l) ok = tt
  good-field (Load d o i) ok = tt
  good-field (Save o i v) ok = field-inside o i ok.1.1.0 ok.1.1.1.0 (value (held g v))
  good-field (RawLoad o i) ok = tt
  good-field (RawSave o i w) ok = field-inside o i ok.1.0 ok.1.1.0 (raw w)
  good-field (Kind h) ok = tt
  good-field (ValueOf h) ok = tt
  good-field (Same a b) ok = tt
  good-field (Part d o k) ok = tt
  good-field (Figure h) ok = tt
  good-field (Raws h) ok = tt
  good-field Collect ok = tt
  good-field Fill ok = tt
  good-field Stepped ok = tt
  good-field GivenUp ok = tt

  -- the state after an outcome of what the call does
  abbrev after-of : Outcome → Act → State
  after-of out act = record { graph = graph_after out g act; standing = standing_by W g s out act }

  abbrev before : State
  before = record { graph = g; standing = s }

  refused-stands : (r : Refusal) → (r ≡ Full → ⊥) → standing_refused W g s r ≡ s
  refused-stands (NoHandle at) ne = refl
  refused-stands (NoNumber at) ne = refl
  refused-stands (TooWide at) ne = refl
  refused-stands (NoPart at) ne = refl
  refused-stands (NoRule at) ne = refl
  refused-stands (OtherKind at) ne = refl
  refused-stands (NoField at) ne = refl
  refused-stands (OtherField at) ne = refl
  refused-stands Full ne = absurd (ne refl)

  written_after : (n : ℤ) (q i : ℕ) (x : Cell) → GoodField (writes q i x) →
      (memory_words W (after-of (Ok n) (writes q i x)) ≡ set (image W g s []) (place_of W g s q + (2 + i)) (field_word (reference W g s) x))
      × (handles_words W (after-of (Ok n) (writes q i x)) ≡ handle_words W g s)
  written_after n q i x good =
      let lt = below q good.0 in (
        sym (write-field W g s [] snd.fits q lt good.0 i x good.1 good.2),
        ap (λ (r : ℕ → ℕ). map (value_word r) g.handles) (same-reference W g (change g q (with_cell (object_at g q) i x)) s (written-shaped g q lt i x)),
      )

  module _ (t : List Bool) (snd' : Sound m W g t) (d : ℕ) (o : Object) (room : words_of g t + size o ≤ W) (names : (q : ℕ) → Names o q → q < length g.objects) where
    within : (j : ℕ) → j < length g.objects → Within (length g.objects) (object_at g j)
    unfolding Within
    within j l q h = snd.within j q h

    here : Within (length g.objects) o
    unfolding Within
    here q h = names q h

    with-new : WithNew W g t d o (record { graph = make g d o; standing = t ++ (true ∷ []) })
    with-new =
        let place = new-place W g t d o room snd'.as_long within here in
        let new = new-object W g t d o room snd'.as_long within here in
        record {
          memory = allocated W g t d o room snd'.as_long within here ∙ ap (λ (p : ℕ). put (image W g t []) p (object_words (reference W g t) false o)) place;
          handles =
              new-handles W g t d o room snd'.as_long within here held_below
              ∙ ap₂ (λ (p : ℕ) (x : Object). set (handle_words W g t) d (p * 4 + cond (is_record x) 2 3)) place new;
        }

  made_after : (t : List Bool) (n : ℤ) (d : ℕ) (o : Object) → ltb W (live_words g + size o) ≡ false → ((q : ℕ) → Names o q → q < length g.objects) → cleared W g s (size o) ≡ t → WithNew W g t d o (after-of (Ok n) (makes d o))
  made_after t n d o r names is =
      let made = room-made m W g s snd (size o) r in
      subst (λ (u : List Bool). WithNew W g t d o (record { graph = make g d o; standing = u ++ (true ∷ []) })) (sym is)
      (with-new t (subst (λ (u : List Bool). Sound m W g u) is made.0) d o (subst (λ (u : List Bool). words_of g u + size o ≤ W) is made.1) names)

  module _ (c : Call) where
    abbrev act : Act
    act = (row m W g c).1

    -- of the outcome and of what the call does
    at : (out : Outcome) (a : Act) (Q : State → Type 0) → outcome m W g c ≡ out → (row m W g c).1 ≡ a → Q (after-of out a) → Q (advance m W c before).1
    at out a Q e f q =
        subst (λ (x : Outcome). Q (after-of x act)) (sym e) (subst (λ (b : Act). Q (after-of out b)) (sym f) q)

    made_by : (t : List Bool) (n : ℤ) (d : ℕ) (o : Object) → outcome m W g c ≡ Ok n → (row m W g c).1 ≡ makes d o → cleared W g s (size o) ≡ t → WithNew W g t d o (advance m W c before).1
    made_by t n d o e f is =
        let p = granted m W g c n e in
        at (Ok n) (makes d o) (WithNew W g t d o) e f
        (made_after t n d o (subst (λ (a : Act). full W g a ≡ false) f p.1) (subst NewNames f (new-names c p.0)) is)

    altered : Altered m W c before (advance m W c before).0 (advance m W c before).1
    altered =
        record {
          full = λ e. subst (λ (x : Outcome). PackedAs W g (after-of x act)) (sym e) (record { memory = refl; handles = refl });
          refused = λ r e ne.
              subst (λ (x : Outcome). Unaltered W before (after-of x act)) (sym e)
              (subst (λ (t : List Bool). Unaltered W before (record { graph = g; standing = t })) (sym (refused-stands r ne)) (record { memory = refl; handles = refl }));
          handle_set = λ n d v e f.
              at (Ok n) (sets d v) (λ st. (memory_words W st ≡ image W g s []) × (handles_words W st ≡ set (handle_words W g s) d (value_word (reference W g s) v))) e f
              (refl, sym (write-handle W g s d v));
          field_written = λ n q i x e f.
              at (Ok n) (writes q i x)
              (λ st. (memory_words W st ≡ set (image W g s []) (place_of W g s q + (2 + i)) (field_word (reference W g s) x)) × (handles_words W st ≡ handle_words W g s)) e f
              (written_after n q i x (subst GoodField f (good-field c (granted m W g c n e).0)));
          told = λ n k e f. at (Ok n) (tells k) (Unaltered W before) e f (record { memory = refl; handles = refl });
          collected = λ n e f. at (Ok n) collects (PackedAs W g) e f (record { memory = refl; handles = refl });
          made = λ n d o e f l. made_by s n d o e f (cond-false _ _ _ (le-ltb (between W g s) (size o) l));
          made_packed = λ n d o e f l. made_by (reachable g) n d o e f (cond-true _ _ _ (lt-ltb (between W g s) (size o) l));
        }

pub calls-alter : CallsAlter
calls-alter m W c before snd = altered m W before.graph before.standing snd c
