-- Which words a call sets, told by the words of before alone.
use Rattle.std.specs.Prelude.{◌≡◌, ℕ, zero, suc, ◌+◌, ◌-◌, ◌*◌, ◌/◌, ◌≤◌, min, false, List, [], ◌∷◌, replicate, Ok, Err, ◌≢◌, slice_index, slice_set}
use Rattle.graph.specs.declared.Call.{Call}
use Rattle.graph.specs.declared.Call.TheVariants.{Num, Clear, Copy, Map, Layout, Record, Load, Save, RawLoad, RawSave, Kind, Value as ValueOf, Same, Part, Figure, Raws, Collect, Fill, Stepped, GivenUp}
use Rattle.graph.specs.declared.Refusal.TheVariants.{Full}
use Rattle.graph.specs.Step.{Outcome}
use Rattle.graph.specs.Words.{number_word, header, put}

-- the words of the memory and of the handles, where the two sides end, and how many words the heap has
pub record View : Type 0 where
  pub words : List ℕ
  pub handles : List ℕ
  pub low : ℕ
  pub high : ℕ
  pub limit : ℕ

abbrev pub parts : List ℕ → List ℕ → ℕ → ℕ → ℕ → View
parts ws hs low high limit = record { words = ws; handles = hs; low = low; high = high; limit = limit }

-- the word of a handle
abbrev pub handle_word : View → ℕ → ℕ
handle_word v h = slice_index v.handles h

-- where the object lies to which a handle refers
abbrev pub place_in : View → ℕ → ℕ
place_in v h = handle_word v h / 4

-- where field i lies of the record to which a handle refers
abbrev pub field_place : View → ℕ → ℕ → ℕ
field_place v o i = place_in v o + (2 + i)

-- which word of an object holds its part k: the record's layout, the layout's map, the map's name or parent
abbrev pub part_offset : ℕ → ℕ
part_offset zero = 1
part_offset (suc zero) = 2
part_offset (suc (suc zero)) = 2
part_offset (suc (suc (suc k))) = 3

-- The heap with another word in a handle, or in the memory, or with one more object beside the gap, to which a handle refers.

abbrev pub with_handle : View → ℕ → ℕ → View
with_handle v d w = parts v.words (slice_set v.handles d w) v.low v.high v.limit

abbrev pub with_word : View → ℕ → ℕ → View
with_word v p w = parts (slice_set v.words p w) v.handles v.low v.high v.limit

abbrev pub with_class : View → ℕ → ℕ → List ℕ → View
with_class v d n ws = parts (put v.words (v.high - n) ws) (slice_set v.handles d ((v.high - n) * 4 + 3)) v.low (v.high - n) v.limit

abbrev pub with_record : View → ℕ → ℕ → List ℕ → View
with_record v d n ws = parts (put v.words v.low ws) (slice_set v.handles d (v.low * 4 + 2)) (v.low + n) v.high v.limit

pub data Effect : Type 0 where
  -- no word is set
  none : Effect
  -- a handle takes a word
  handle_takes : ℕ → ℕ → Effect
  -- a place of the memory takes a word
  place_takes : ℕ → ℕ → Effect
  -- a handle gets a new class, or a new record, of so many words
  class_made : ℕ → ℕ → List ℕ → Effect
  record_made : ℕ → ℕ → List ℕ → Effect
  -- marks are set and cleared again
  weighs : Effect
  -- the heap is packed
  packs : Effect

-- how many words a record takes whose layout a handle refers to; a layout has at most 32 fields
abbrev pub record_words : View → ℕ → ℕ
record_words v l = 2 + min (slice_index v.words (place_in v l + 1)) 32

abbrev pub effect : Call → View → Effect
effect (Num h n) v = handle_takes h (number_word n)
effect (Clear h) v = handle_takes h 0
effect (Copy d s) v = handle_takes d (handle_word v s)
effect (Map d r n p) v = class_made d 5 (header false 2 5 ∷ r ∷ handle_word v n ∷ handle_word v p ∷ 5 ∷ [])
effect (Layout d c n) v = class_made d 4 (header false 1 4 ∷ c ∷ handle_word v n ∷ 4 ∷ [])
effect (Record d l) v = record_made d (record_words v l) (header false 0 (record_words v l) ∷ handle_word v l ∷ replicate (record_words v l - 2) 0)
effect (Load d o i) v = handle_takes d (slice_index v.words (field_place v o i))
effect (Save o i x) v = place_takes (field_place v o i) (handle_word v x)
effect (RawLoad o i) v = none
effect (RawSave o i w) v = place_takes (field_place v o i) w
effect (Kind h) v = none
effect (ValueOf h) v = none
effect (Same a b) v = none
effect (Part d o k) v = handle_takes d (slice_index v.words (place_in v o + part_offset k))
effect (Figure h) v = none
effect (Raws h) v = none
effect Collect v = packs
effect Fill v = weighs
effect Stepped v = packs
effect GivenUp v = weighs

-- What is altered. A refused call alters nothing, but for 31, which has packed; a new object is put where there was room for it as it is said
-- here, and where there was none the packed words are told by the still graph.
abbrev pub Alters : Effect → View → Outcome → View → Type 0
Alters none v out v' = v' ≡ v
Alters (handle_takes d w) v (Ok n) v' = v' ≡ with_handle v d w
Alters (handle_takes d w) v (Err e) v' = v' ≡ v
Alters (place_takes p w) v (Ok n) v' = v' ≡ with_word v p w
Alters (place_takes p w) v (Err e) v' = v' ≡ v
Alters (class_made d n ws) v (Ok x) v' = n ≤ v.high - v.low → v.high ≤ 16384 → v' ≡ with_class v d n ws
Alters (class_made d n ws) v (Err e) v' = (e ≢ Full) → v' ≡ v
Alters (record_made d n ws) v (Ok x) v' = n ≤ v.high - v.low → v.high ≤ 16384 → v' ≡ with_record v d n ws
Alters (record_made d n ws) v (Err e) v' = (e ≢ Full) → v' ≡ v
Alters weighs v out v' = (v'.low ≡ v.low) × (v'.high ≡ v.high) × (v'.limit ≡ v.limit)
Alters packs v out v' = v'.limit ≡ v.limit
