-- The conditions of refusals, as code finds them.
use Rattle.std.specs.Prelude.{◌≡◌, ℕ, Bool, true, false, cond, not, ◌||◌, List, [], ◌∷◌, length, pos, IfOk, Ok, Err, Result, ◌==◌, nat_le, nat_lt, slice_index_or}
use Rattle.graph.specs.declared.Refusal.TheVariants.{OtherKind, NoField, OtherField}
use Rattle.graph.specs.declared.Refusal.{Refusal}
use Rattle.graph.specs.Step.{Check, ◌refuses◌, Outcome, judge, kind_of, cells_of, object_of, raw_cell}
use Rattle.scheme.specs.Meaning.{Meaning}
use Rattle.heap.specs.Effects.{View}
use Rattle.heap.specs.Views.{Stands, Means}
use Rattle.graph.specs.Graph.{Graph, Value, raw, Object, a_record, a_layout, a_map}

-- the outcome where the conditions alone decide
abbrev pub passing : {X : Type 0} → Result X Refusal → Outcome
passing (Ok x) = Ok (pos 0)
passing (Err r) = Err r

-- the first of the conditions that holds is the refusal, and where none does the value is as said
pub record Sifts {X : Type 0} (tests : List Check) (P : X → Type 0) (r : Result X Refusal) : Type 0 where
  pub judged : judge tests (Ok (pos 0)) ≡ passing r
  pub gives : IfOk r P

-- what is said of the value that a word stands for, whatever graph and standing objects the heap rests with
abbrev pub OfValue : Meaning → View → ℕ → (Graph → Value → Type 0) → Type 0
OfValue m view word Says = (g : Graph) (s : List Bool) (v : Value) → Stands m view g s → Means view.limit g s word v → Says g v

-- the map of a layout
abbrev pub map_of : Object → ℕ
map_of (a_record l cells) = 0
map_of (a_layout c m) = m
map_of (a_map r n p) = 0

-- none of the conditions holds
pub data Passes : List Check → Type 0 where
  none : Passes []
  more : {t : Bool} {r : Refusal} {rest : List Check} → t ≡ false → Passes rest → Passes (t refuses r ∷ rest)

-- the first of the conditions that holds has the refusal
pub data Stopped : List Check → Refusal → Type 0 where
  stops_here : {t : Bool} {r : Refusal} {rest : List Check} → t ≡ true → Stopped (t refuses r ∷ rest) r
  stops_later : {t : Bool} {r e : Refusal} {rest : List Check} → t ≡ false → Stopped rest e → Stopped (t refuses r ∷ rest) e

-- The conditions on what a value holds.

abbrev pub is_kind : Graph → Value → ℕ → ℕ → Check
is_kind g v k at = not (kind_of g v == k) refuses OtherKind at

abbrev pub has_field : Graph → Value → ℕ → ℕ → Check
has_field g v i at = nat_le (length (cells_of (object_of g v))) i refuses NoField at

-- field i is of the sort that is wanted: raw bits, or a value
abbrev pub is_sort : Graph → Value → ℕ → Bool → ℕ → Check
is_sort g v i sort at = let found = raw_cell (slice_index_or (cells_of (object_of g v)) i (raw 0)) in cond sort (not found) found refuses OtherField at

abbrev pub is_parent : Graph → Value → ℕ → Check
is_parent g v at = not (kind_of g v == 0 || kind_of g v == 4) refuses OtherKind at

abbrev pub is_object : Graph → Value → ℕ → Check
is_object g v at = nat_lt (kind_of g v) 2 refuses OtherKind at
