-- What a heap's words, handles and ends say of the graph, and what a call promises.
use Rattle.std.specs.Prelude.{◌≡◌, ℕ, ◌+◌, ◌≤◌, min, Bool, true, false, cond, List, length, drop, ℤ, pos, IfErr, Ok, Err, Result, nat_lt}
use Rattle.scheme.specs.Meaning.{Meaning}
use Rattle.graph.specs.declared.Call.{Call}
use Rattle.graph.specs.declared.Refusal.{Refusal}
use Rattle.graph.specs.Graph.{Graph, Value}
use Rattle.graph.specs.Reach.{reachable, live_words}
use Rattle.graph.specs.Step.{Outcome}
use Rattle.graph.specs.Words.{low_end, high_end, reference, value_word}
use Rattle.graph.specs.Advance.{advance, cleared}
use Rattle.graph.specs.declared.Refusal.TheVariants.{Full}
use Rattle.graph.specs.Laws.{Fitting}
use Rattle.graph.specs.Nearest.{FillOf}
use Rattle.graph.specs.Rests.{Rests, state}
use Rattle.heap.specs.declared.Heap.{Heap}
use Rattle.heap.specs.Effects.{View, effect, Alters}

abbrev pub view : {M S : Type 0} → (M → List ℕ) → Heap M S → View
view words h = record { words = words h.space.memory; handles = h.space.handles; low = h.bounds.low; high = h.bounds.high; limit = h.bounds.limit }

-- the heap rests with the graph and the standing objects
pub record Stands (m : Meaning) (v : View) (g : Graph) (s : List Bool) : Type 0 where
  pub rests : Rests m v.limit g s v.words v.handles
  pub limited : v.limit ≡ min (length v.words) 16384
  pub low_is : v.low ≡ low_end g s
  pub high_is : v.high ≡ high_end v.limit g s

-- what a call has done to a heap that rests with the graph and the standing objects
pub record Done (m : Meaning) (c : Call) (before : View) (g : Graph) (s : List Bool) (after : View) (out : Outcome) : Type 0 where
  pub told : out ≡ (advance m before.limit c (state g s)).0
  pub stands : Stands m after (advance m before.limit c (state g s)).1.graph (advance m before.limit c (state g s)).1.standing
  pub later : drop before.limit after.words ≡ drop before.limit before.words

-- a call follows the still graph, whatever graph and standing objects the heap rests with
pub record Follows (m : Meaning) (c : Call) (before after : View) (out : Outcome) : Type 0 where
  pub done : (g : Graph) (s : List Bool) → Stands m before g s → Done m c before g s after out
  pub limit : after.limit ≡ before.limit

-- The uniform contract of a call: it follows the still graph, sets the words that its row names and no others, and keeps its scheme.
pub record Meets {M S : Type 0} (words : M → List ℕ) (meaning : S → Meaning) (c : Call) (before after : Heap M S) (out : Outcome) : Type 0 where
  pub follows : Follows (meaning before.scheme) c (view words before) (view words after) out
  pub alters : Alters (effect c (view words before)) (view words before) out (view words after)
  pub scheme : after.scheme ≡ before.scheme

-- a collection: of the graph nothing changes, what stands is what can be reached, and the answer is the number of live words
pub record Packed (m : Meaning) (before : View) (g : Graph) (after : View) (live : ℕ) : Type 0 where
  pub told : live ≡ live_words g
  pub stands : Stands m after g (reachable g)
  pub later : drop before.limit after.words ≡ drop before.limit before.words

pub record Packs (m : Meaning) (before after : View) (live : ℕ) : Type 0 where
  pub packed : (g : Graph) (s : List Bool) → Stands m before g s → Packed m before g after live
  pub limit : after.limit ≡ before.limit

-- the answer is the number of live words, and no word changes
pub record Tells (m : Meaning) (before after : View) (live : ℕ) : Type 0 where
  pub told : (g : Graph) (s : List Bool) → Stands m before g s → live ≡ live_words g
  pub same : (g : Graph) (s : List Bool) → Stands m before g s → after ≡ before
  pub limit : after.limit ≡ before.limit

-- the number told is the one that is nearest to the live words in a hundred of the heap's, a half upward, or 0 where it has none
abbrev pub TellsFill : Meaning → View → ℕ → Type 0
TellsFill m v told = (g : Graph) (s : List Bool) → Stands m v g s → FillOf (live_words g) v.limit told

-- what a call gives, as an outcome
abbrev pub outcome_of : {X : Type 0} → (X → ℤ) → Result X Refusal → Outcome
outcome_of f (Ok x) = Ok (f x)
outcome_of f (Err r) = Err r

abbrev pub nothing : Unit {0} → ℤ
nothing _ = pos 0

-- 1 for yes, 0 for no
abbrev pub truth : Bool → ℤ
truth b = pos (cond b 1 0)

-- the word is that of the value, which stands in the heap
pub record Means (W : ℕ) (g : Graph) (s : List Bool) (word : ℕ) (v : Value) : Type 0 where
  pub word_is : word ≡ value_word (reference W g s) v
  pub fitting : Fitting s v

-- room for so many words between the two sides, made by a collection where there was not enough; or refusal 31, after a collection
abbrev pub Room : Meaning → ℕ → View → Graph → List Bool → View → Result (Unit {0}) Refusal → Type 0
Room m need before g s after (Ok _) = Stands m after g (cleared before.limit g s need) × (nat_lt before.limit (live_words g + need) ≡ false)
Room m need before g s after (Err e) = (e ≡ Full) × Stands m after g (reachable g) × (nat_lt before.limit (live_words g + need) ≡ true)

pub record Rooms (m : Meaning) (need : ℕ) (before after : View) (r : Result (Unit {0}) Refusal) : Type 0 where
  pub room : (g : Graph) (s : List Bool) → Stands m before g s → Room m need before g s after r
  pub later : (g : Graph) (s : List Bool) → Stands m before g s → drop before.limit after.words ≡ drop before.limit before.words
  pub limit : after.limit ≡ before.limit
  pub refusal : IfErr r (λ e. e ≡ Full)
  -- where there was room, nothing is done
  pub roomy : before.low + need ≤ before.high → after ≡ before
