-- Which words differ after a call, of a heap at rest with a graph and what stands of it.
use Rattle.std.specs.Prelude.{◌≡◌, ℕ, ◌+◌, ◌-◌, ◌*◌, ◌<◌, ◌≤◌, Bool, false, cond, List, [], ℤ, Ok, Err, ◌≢◌, slice_set}
use Rattle.scheme.specs.Meaning.{Meaning}
use Rattle.graph.specs.declared.Call.{Call}
use Rattle.graph.specs.declared.Refusal.{Refusal}
use Rattle.graph.specs.declared.Refusal.TheVariants.{Full}
use Rattle.graph.specs.Graph.{Value, Cell, Object, Graph, size, is_record}
use Rattle.graph.specs.Reach.{reachable}
use Rattle.graph.specs.Step.{sets, makes, writes, tells, collects, row, Outcome}
use Rattle.graph.specs.Words.{between, low_end, high_end, place_of, reference, value_word, field_word, object_words, image, handle_words, packed, packed_handles, put}
use Rattle.graph.specs.Advance.{State, advance, memory_words, handles_words}
use Rattle.graph.specs.Sound.{SoundState}

-- where a new object stands: next to the gap between the sides
abbrev pub innermost : ℕ → Graph → List Bool → Object → ℕ
innermost W g s o = cond (is_record o) (low_end g s) (high_end W g s - size o)

-- the words are those of the objects t, with one more that is the innermost of its side and to which handle d refers
pub record WithNew (W : ℕ) (g : Graph) (t : List Bool) (d : ℕ) (o : Object) (after : State) : Type 0 where
  pub memory : memory_words W after ≡ put (image W g t []) (innermost W g t o) (object_words (reference W g t) false o)
  pub handles : handles_words W after ≡ slice_set (handle_words W g t) d (innermost W g t o * 4 + cond (is_record o) 2 3)

-- all words are as they were
pub record Unaltered (W : ℕ) (before after : State) : Type 0 where
  pub memory : memory_words W after ≡ memory_words W before
  pub handles : handles_words W after ≡ handles_words W before

-- the words are the packed words
pub record PackedAs (W : ℕ) (g : Graph) (after : State) : Type 0 where
  pub memory : memory_words W after ≡ packed W g
  pub handles : handles_words W after ≡ packed_handles W g

pub record Altered (m : Meaning) (W : ℕ) (c : Call) (before : State) (out : Outcome) (after : State) : Type 0 where
  -- refusal 31 leaves the packed words, any other refusal every word
  pub full : out ≡ Err Full → PackedAs W before.graph after
  pub refused : (r : Refusal) → out ≡ Err r → (r ≢ Full) → Unaltered W before after
  -- a granted call alters the word that it sets: a handle's, or a field's
  pub handle_set :
      (n : ℤ) (d : ℕ) (v : Value) → out ≡ Ok n → (row m W before.graph c).1 ≡ sets d v →
      (memory_words W after ≡ memory_words W before) × (handles_words W after ≡ slice_set (handles_words W before) d (value_word (reference W before.graph before.standing) v))
  pub field_written :
      (n : ℤ) (q i : ℕ) (x : Cell) → out ≡ Ok n → (row m W before.graph c).1 ≡ writes q i x →
      (memory_words W after ≡ slice_set (memory_words W before) (place_of W before.graph before.standing q + (2 + i)) (field_word (reference W before.graph before.standing) x))
      × (handles_words W after ≡ handles_words W before)
  pub told : (n k : ℤ) → out ≡ Ok n → (row m W before.graph c).1 ≡ tells k → Unaltered W before after
  -- a collection leaves the packed words
  pub collected : (n : ℤ) → out ≡ Ok n → (row m W before.graph c).1 ≡ collects → PackedAs W before.graph after
  -- a new object is put next to the gap: where that was wide enough into the words of before, else into the packed words that the collection left
  pub made :
      (n : ℤ) (d : ℕ) (o : Object) → out ≡ Ok n → (row m W before.graph c).1 ≡ makes d o → size o ≤ between W before.graph before.standing →
      WithNew W before.graph before.standing d o after
  pub made_packed :
      (n : ℤ) (d : ℕ) (o : Object) → out ≡ Ok n → (row m W before.graph c).1 ≡ makes d o → between W before.graph before.standing < size o →
      WithNew W before.graph (reachable before.graph) d o after

abbrev pub CallsAlter : Type 0
CallsAlter =
    (m : Meaning) (W : ℕ) (c : Call) (before : State) → SoundState m W before → Altered m W c before (advance m W c before).0 (advance m W c before).1
