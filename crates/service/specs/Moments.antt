-- The words of a heap as a call came and as it was answered.
use Rattle.std.specs.Prelude.{◌≡◌, ℕ, ◌+◌, ◌*◌, ◌<◌, ◌≤◌, Bool, true, false, cond, ◌⊎◌, List, take, ℤ, Ok, Err, ◌≢◌, slice_set}
use Rattle.scheme.specs.Meaning.{Meaning}
use Rattle.graph.specs.declared.Call.{Call}
use Rattle.graph.specs.declared.Refusal.{Refusal}
use Rattle.graph.specs.declared.Refusal.TheVariants.{Full}
use Rattle.graph.specs.Graph.{Value, Cell, Object, Graph, size, is_record}
use Rattle.graph.specs.Reach.{reachable}
use Rattle.graph.specs.Step.{Outcome, sets, makes, writes, tells, row}
use Rattle.graph.specs.Words.{between, place_of, reference, value_word, field_word, object_words, packed, packed_handles, put}
use Rattle.graph.specs.Altered.{innermost}
use Rattle.graph.specs.Runs.{packs}
use Rattle.heap.specs.Effects.{View}

-- a collection, at once or by steps, or refusal 31, which has collected
abbrev pub Collects : Call → Outcome → Type 0
Collects c answer = (packs c ≡ true) ⊎ (answer ≡ Err Full)

-- no word differs, and no handle
pub record Untouched (before after : View) : Type 0 where
  pub memory : after.words ≡ before.words
  pub handles : after.handles ≡ before.handles

-- W is how many words the heap has. Its words are those of the reachable objects alone.
pub record IsPacked (W : ℕ) (g : Graph) (heap : View) : Type 0 where
  pub memory : take W heap.words ≡ packed W g
  pub handles : heap.handles ≡ packed_handles W g

-- The words and handles are ws and hs, of the objects that stand, but for a new object: it is innermost on its side, and handle d names it.
pub record WithNew (W : ℕ) (g : Graph) (standing : List Bool) (ws hs : List ℕ) (d : ℕ) (o : Object) (heap : View) : Type 0 where
  pub memory : take W heap.words ≡ put ws (innermost W g standing o) (object_words (reference W g standing) false o)
  pub handles : heap.handles ≡ slice_set hs d (innermost W g standing o * 4 + cond (is_record o) 2 3)

-- Which words differ, where the heap had the words of the graph and of what stood of it as the call came.
pub record Differs (m : Meaning) (W : ℕ) (g : Graph) (standing : List Bool) (c : Call) (before : View) (answer : Outcome) (after : View) : Type 0 where
  -- after a collection, at once or by steps, and after refusal 31 the packed words stand
  pub collected : Collects c answer → IsPacked W g after
  -- after a making call that had to collect, those and the new object
  pub made_packed :
      (n : ℤ) (d : ℕ) (o : Object) → answer ≡ Ok n → (row m W g c).1 ≡ makes d o → between W g standing < size o →
      WithNew W g (reachable g) (packed W g) (packed_handles W g) d o after
  -- after one that had room, the words of before and the new object
  pub made :
      (n : ℤ) (d : ℕ) (o : Object) → answer ≡ Ok n → (row m W g c).1 ≡ makes d o → size o ≤ between W g standing →
      WithNew W g standing (take W before.words) before.handles d o after
  -- where a handle is set, its word alone differs
  pub handle_set :
      (n : ℤ) (d : ℕ) (v : Value) → answer ≡ Ok n → (row m W g c).1 ≡ sets d v →
      (after.words ≡ before.words) × (after.handles ≡ slice_set before.handles d (value_word (reference W g standing) v))
  -- where a field is written, its word alone differs
  pub field_written :
      (n : ℤ) (q i : ℕ) (x : Cell) → answer ≡ Ok n → (row m W g c).1 ≡ writes q i x →
      (take W after.words ≡ slice_set (take W before.words) (place_of W g standing q + (2 + i)) (field_word (reference W g standing) x))
      × (after.handles ≡ before.handles)
  -- a call that only tells, a collection given up, and any other refusal leave every word
  pub told : (n k : ℤ) → answer ≡ Ok n → (row m W g c).1 ≡ tells k → Untouched before after
  pub refused : (r : Refusal) → answer ≡ Err r → (r ≢ Full) → Untouched before after
