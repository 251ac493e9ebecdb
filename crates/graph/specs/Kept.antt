-- What was stored stays, through whatever is called, until a call that was granted overwrites it.
use Rattle.std.specs.Prelude.{◌≡◌, ℕ, suc, ◌<◌, ◌≤◌, Bool, List, take, ℤ, pos, Some, Ok, slice_get}
use Rattle.scheme.specs.Meaning.{Meaning}
use Rattle.graph.specs.declared.Call.{Call}
use Rattle.graph.specs.declared.Call.TheVariants.{Num, Clear, Copy, Map, Layout, Record, Load, Save, RawLoad, RawSave, Value as ValueOf, Same, Part}
use Rattle.graph.specs.Graph.{Graph, number, object, held}
use Rattle.graph.specs.Step.{Outcome, run}
use Rattle.graph.specs.Sound.{Sound}

-- the handle is the call's target: the call sets it where it is granted
pub data SetsHandle : Call → ℕ → Type 0 where
  by_num : {h : ℕ} {n : ℤ} → SetsHandle (Num h n) h
  by_clear : {h : ℕ} → SetsHandle (Clear h) h
  by_copy : {h s : ℕ} → SetsHandle (Copy h s) h
  by_map : {h r n p : ℕ} → SetsHandle (Map h r n p) h
  by_layout : {h c n : ℕ} → SetsHandle (Layout h c n) h
  by_record : {h l : ℕ} → SetsHandle (Record h l) h
  by_load : {h o i : ℕ} → SetsHandle (Load h o i) h
  by_part : {h o k : ℕ} → SetsHandle (Part h o k) h

-- the call writes field i of the object at position q where it is granted, through whatever handle
pub data WritesField (g : Graph) : Call → ℕ → ℕ → Type 0 where
  by_save : {o i v q : ℕ} → held g o ≡ object q → WritesField g (Save o i v) q i
  by_rawsave : {o i w q : ℕ} → held g o ≡ object q → WritesField g (RawSave o i w) q i

-- A list of calls, given one after another to a graph. Call 0 is the first.
module _ (m : Meaning) (W : ℕ) (g : Graph) (calls : List Call) where
  -- the graph that call n is given to
  abbrev pub graph_at : ℕ → Graph
  graph_at n = (run m W (take n calls) g).1

  abbrev pub IsCall : ℕ → Call → Type 0
  IsCall n c = slice_get calls n ≡ Some c

  -- with the answer to each
  module _ (answers : List Outcome) where
    -- call n was granted, and answered a
    abbrev pub Answers : ℕ → ℤ → Type 0
    Answers n a = slice_get answers n ≡ Some (Ok a)

    -- call n is c, and was granted
    abbrev pub Granted : ℕ → Call → Type 0
    Granted n c = IsCall n c × ((a : ℤ) × Answers n a)

    -- no call behind call j and before call k was granted and sets handle h
    abbrev pub Unset : (j k h : ℕ) → Type 0
    Unset j k h = (n : ℕ) (c : Call) → j < n → n < k → Granted n c → SetsHandle c h → ⊥

    -- nor writes field i of the object at position q
    abbrev pub Unwritten : (j k q i : ℕ) → Type 0
    Unwritten j k q i = (n : ℕ) (c : Call) → j < n → n < k → Granted n c → WritesField (graph_at n) c q i → ⊥

    -- call j wrote the raw field i of the object at position q, through handle o, and call k asks for it, through handle p
    pub record RawAsked (j k q i w : ℕ) : Type 0 where
      pub o : ℕ
      pub p : ℕ
      pub later : j < k
      pub saved : Granted j (RawSave o i w)
      pub saved_in : held (graph_at j) o ≡ object q
      pub unwritten : Unwritten j k q i
      pub loads : IsCall k (RawLoad p i)
      pub loads_from : held (graph_at k) p ≡ object q

    -- call j saved what handle v held in field i of the object at position q, and call k has handle d take that field
    pub record ValueAsked (j k q i v d : ℕ) : Type 0 where
      pub o : ℕ
      pub p : ℕ
      pub later : j < k
      pub saved : Granted j (Save o i v)
      pub saved_in : held (graph_at j) o ≡ object q
      pub unwritten : Unwritten j k q i
      pub loads : IsCall k (Load d p i)
      pub loads_from : held (graph_at k) p ≡ object q
      pub target : d ≤ 31

    pub record Kept : Type 0 where
      -- a handle holds what it held behind call j
      pub handles : (j k h : ℕ) → j < k → Unset j k h → held (graph_at k) h ≡ held (graph_at (suc j)) h
      -- a number that a handle took is answered by `value`
      pub numbers : (j k h : ℕ) (n : ℤ) → j < k → Granted j (Num h n) → Unset j k h → IsCall k (ValueOf h) → Answers k n
      -- a handle and the one that it was copied from hold the same
      pub copies : (j k d s : ℕ) → j < k → Granted j (Copy d s) → Unset j k d → Unset j k s → IsCall k (Same d s) → Answers k (pos 1)
      -- a raw field answers the word that it became
      pub raw_fields : (j k q i w : ℕ) → RawAsked j k q i w → Answers k (pos w)
      -- a handle takes from a value field the value that was saved there: nothing, a number, or the same object
      pub value_fields : (j k q i v d : ℕ) → ValueAsked j k q i v d → Answers k (pos 0) × (held (graph_at (suc k)) d ≡ held (graph_at j) v)
      -- so that `value` answers a number that was saved, and `same` tells that it is what was saved
      pub saved_numbers :
          (j k l q i v d : ℕ) (n : ℤ) → ValueAsked j k q i v d → held (graph_at j) v ≡ number n → k < l → Unset k l d → IsCall l (ValueOf d) → Answers l n
      pub saved_values :
          (j k l q i v d : ℕ) → ValueAsked j k q i v d → k < l → Unset k l d → Unset j l v → IsCall l (Same d v) → Answers l (pos 1)

-- in any list of calls, given to any sound graph, what was stored stays
abbrev pub StoredStays : Type 0
StoredStays = (m : Meaning) (W : ℕ) (g : Graph) (s : List Bool) (calls : List Call) → Sound m W g s → Kept m W g calls (run m W calls g).0
