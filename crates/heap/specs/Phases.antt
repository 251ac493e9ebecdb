-- A collection by steps: what a begun and a drawn heap are, and what each step promises.
use Rattle.std.specs.Prelude.{◌≡◌, ℕ, min, Bool, List, ◌++◌, length, drop}
use Rattle.scheme.specs.Meaning.{Meaning}
use Rattle.graph.specs.Graph.{Graph}
use Rattle.graph.specs.Reach.{reachable, live_words}
use Rattle.graph.specs.Order.{OrderOfMarking, marks_of}
use Rattle.graph.specs.Words.{image, low_end, high_end}
use Rattle.space.specs.Layout.{Begun}
use Rattle.space.specs.Collect.{Drawn}
use Rattle.heap.specs.Effects.{View}
use Rattle.heap.specs.Views.{Stands}

-- `rest` are the memory's words behind the heap's.

-- a begun heap: at rest but for the marks, which are on exactly the reachable objects; `live` is their words
pub record BegunAs (m : Meaning) (v : View) (live : ℕ) (g : Graph) (s : List Bool) (rest : List ℕ) : Type 0 where
  pub begun : Begun m v.limit g s (reachable g) rest v.words v.handles v.low v.high
  pub limited : v.limit ≡ min (length v.words) 16384
  pub live_is : live ≡ live_words g

-- a drawn heap: its words and handles are the drawn words of the reachable objects
pub record DrawnAs (m : Meaning) (v : View) (live : ℕ) (g : Graph) (s : List Bool) (rest : List ℕ) : Type 0 where
  pub drawn : Drawn m v.limit g s (reachable g) rest v.words v.handles
  pub low_is : v.low ≡ low_end g s
  pub high_is : v.high ≡ high_end v.limit g s
  pub limited : v.limit ≡ min (length v.words) 16384
  pub live_is : live ≡ live_words g

-- what begin leaves: a begun heap, whose sides end where they did
pub record Begins (m : Meaning) (before after : View) (live : ℕ) : Type 0 where
  pub begun : (g : Graph) (s : List Bool) → Stands m before g s → BegunAs m after live g s (drop before.limit before.words)
  -- The order of marking is left free: in whichever order objects are marked, these are the words, with the marks on the objects of that order.
  pub any_order :
      (g : Graph) (s : List Bool) → Stands m before g s → (order : List ℕ) → OrderOfMarking g order →
      after.words ≡ image before.limit g s (marks_of g order) ++ drop before.limit before.words
  pub low : after.low ≡ before.low
  pub high : after.high ≡ before.high
  pub limit : after.limit ≡ before.limit

-- what draw leaves: each reference has its object's new place, or stands in the list at its object's header
pub record Draws (m : Meaning) (before after : View) : Type 0 where
  pub drawn : (g : Graph) (s : List Bool) (live : ℕ) (rest : List ℕ) → BegunAs m before live g s rest → DrawnAs m after live g s rest
  pub limit : after.limit ≡ before.limit

-- what close leaves: a heap at rest in which the reachable objects alone stand, packed
pub record Closes (m : Meaning) (before after : View) : Type 0 where
  pub closed :
      (g : Graph) (s : List Bool) (live : ℕ) (rest : List ℕ) → DrawnAs m before live g s rest →
      Stands m after g (reachable g) × (drop before.limit after.words ≡ rest)
  pub limit : after.limit ≡ before.limit

-- a collection given up: the marks are gone, and all that stood stands
pub record GivesUp (m : Meaning) (before after : View) : Type 0 where
  pub rests :
      (g : Graph) (s : List Bool) (live : ℕ) (rest : List ℕ) → BegunAs m before live g s rest →
      Stands m after g s × (drop before.limit after.words ≡ rest)
  pub low : after.low ≡ before.low
  pub high : after.high ≡ before.high
  pub limit : after.limit ≡ before.limit
