-- What a collection has done, told of objects, words and handles: where each reachable object has come to stand,
-- and what has become of each of its words.
use Rattle.std.specs.Prelude.{◌≡◌, ℕ, ◌+◌, ◌<◌, Bool, true, false, List, [], ◌∷◌, map, take, drop, slice_index, slice_index_or}
use Rattle.scheme.specs.Meaning.{Meaning}
use Rattle.graph.specs.Graph.{Value, empty, number, object, Object, a_record, a_layout, a_map, Graph, held, object_at, size}
use Rattle.graph.specs.Step.{cell_value}
use Rattle.graph.specs.Reach.{Reachable, reachable}
use Rattle.graph.specs.Words.{packed, packed_handles, low_end, high_end, place_of, reference, header, header_kind}
use Rattle.graph.specs.Sliding.{Slides}
use Rattle.heap.specs.Effects.{View, handle_word}
use Rattle.heap.specs.Views.{Stands}
use Rattle.heap.specs.Phases.{DrawnAs}

-- the values that an object's words hold, in their order; a word that holds none, as the header, a raw field, a
-- field count, a rule or a boundary tag, counts as empty
abbrev pub word_values : Object → List Value
word_values (a_record l cells) = empty ∷ object l ∷ map cell_value cells
word_values (a_layout c m) = empty ∷ empty ∷ object m ∷ empty ∷ []
word_values (a_map r n p) = empty ∷ empty ∷ n ∷ p ∷ empty ∷ []

-- where the header of object q was, `stood` saying which objects stood before the collection, and where it is, now
-- that the reachable ones alone stand
abbrev pub old_place : ℕ → Graph → List Bool → ℕ → ℕ
old_place W g stood q = place_of W g stood q

abbrev pub new_place : ℕ → Graph → ℕ → ℕ
new_place W g q = place_of W g (reachable g) q

-- the words that referred to it there, and that refer to it here
abbrev pub old_reference : ℕ → Graph → List Bool → ℕ → ℕ
old_reference W g stood q = reference W g stood q

abbrev pub new_reference : ℕ → Graph → ℕ → ℕ
new_reference W g q = reference W g (reachable g) q

-- A word w that holds the value has become w'. A reference to the old place of an object is now the reference to
-- the new place of the same object; any other word is as it was.
abbrev pub Renewed : ℕ → Graph → List Bool → Value → ℕ → ℕ → Type 0
Renewed W g stood empty w w' = w' ≡ w
Renewed W g stood (number n) w w' = w' ≡ w
Renewed W g stood (object q) w w' = (w ≡ old_reference W g stood q) × (w' ≡ new_reference W g q)

-- object q has slid, with all its words, from its old place to its new one
pub record Slid (W : ℕ) (g : Graph) (stood : List Bool) (before after : View) (q : ℕ) : Type 0 where
  -- its header says its kind and its size, and has no mark
  pub unmarked :
      slice_index after.words (new_place W g q) ≡ header false (header_kind (object_at g q)) (size (object_at g q))
  -- each reference among its words goes to the object that it went to, and each other word is as it was: the
  -- header, raw fields, empty and number values, the field count, the rule and the boundary tag
  pub renewed :
      (i : ℕ) → i < size (object_at g q) →
      Renewed W g stood (slice_index_or (word_values (object_at g q)) i empty)
      (slice_index before.words (old_place W g stood q + i)) (slice_index after.words (new_place W g q + i))

-- the heap `after` is `before` at the end of a collection
pub record Collected (W : ℕ) (g : Graph) (stood : List Bool) (before after : View) : Type 0 where
  -- the words of the reachable objects alone stand, packed, and the handles name them there; later words are as
  -- they were
  pub words : take W after.words ≡ packed W g
  pub handles : after.handles ≡ packed_handles W g
  pub later : drop W after.words ≡ drop W before.words
  -- where the records end, and where the classes begin
  pub low : after.low ≡ low_end g (reachable g)
  pub high : after.high ≡ high_end W g (reachable g)
  pub limit : after.limit ≡ W
  -- a reachable object stood before
  pub kept : (q : ℕ) → Reachable g q → slice_index_or stood q false ≡ true
  -- left of a record stand just the words of the reachable records that stood left of it, right of a class
  -- just those of the reachable classes that stood right of it, and no two of a side change places
  pub slides : Slides W g stood (reachable g)
  -- and it stands at its new place with all its words
  pub objects : (q : ℕ) → Reachable g q → Slid W g stood before after q
  -- each handle names the object that it named, or has its word of before
  pub references : (h : ℕ) → h < 32 → Renewed W g stood (held g h) (handle_word before h) (handle_word after h)
  -- told by the words alone: a handle that referred to the old place of an object refers to its new one
  pub same_object :
      (h q : ℕ) → h < 32 → slice_index_or stood q false ≡ true →
      handle_word before h ≡ old_reference W g stood q → handle_word after h ≡ new_reference W g q

-- The contract of a call that collects, whatever graph and standing objects the heap rested with.
abbrev pub LeavesCollected : Meaning → View → View → Type 0
LeavesCollected m before after =
    (g : Graph) (s : List Bool) → Stands m before g s → Collected before.limit g s before after

-- The contract of the step that ends a collection: `before` being whatever heap at rest the drawn one was begun and
-- drawn of, that heap is collected.
abbrev pub ClosesCollected : Meaning → View → View → Type 0
ClosesCollected m drawn after =
    (before : View) (g : Graph) (s : List Bool) (live : ℕ) → Stands m before g s →
    drawn.limit ≡ before.limit →
    DrawnAs m drawn live g s (drop before.limit before.words) → Collected before.limit g s before after
