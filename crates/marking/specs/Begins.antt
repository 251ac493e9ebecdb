-- The begin of a collection, and its giving up, in the words of the still graph.
use Rattle.std.specs.Prelude.{◌≡◌, ℕ, ◌≤◌, Bool, List, ◌++◌, drop}
use Rattle.scheme.specs.Meaning.{Meaning}
use Rattle.graph.specs.Graph.{Graph}
use Rattle.graph.specs.Reach.{reachable, live_words}
use Rattle.graph.specs.Order.{OrderOfMarking, marks_of}
use Rattle.graph.specs.Words.{image, low_end, high_end}
use Rattle.graph.specs.Rests.{Rests}
use Rattle.space.specs.Layout.{Begun}

-- the marks are on what can be reached and on nothing else, no other bit has changed, and the number of live words is told
pub record BeginsWith (m : Meaning) (W : ℕ) (g : Graph) (s : List Bool) (ws hs vs gs : List ℕ) (low high words : ℕ) : Type 0 where
  pub begun : Begun m W g s (reachable g) (drop W ws) vs gs low high
  pub handles : gs ≡ hs
  pub live : words ≡ live_words g
  -- The order of marking is left free: in whichever order objects are marked, these are the words, with the marks on the objects of that order.
  pub any_order : (order : List ℕ) → OrderOfMarking g order → vs ≡ image W g s (marks_of g order) ++ drop W ws

-- for every graph and standing objects that the heap rests with
abbrev pub Begins : Meaning → ℕ → ℕ → ℕ → List ℕ → List ℕ → List ℕ → List ℕ → ℕ → Type 0
Begins m W low high ws hs vs gs words =
    (g : Graph) (s : List Bool) → W ≤ 16384 → Rests m W g s ws hs → low ≡ low_end g s → high ≡ high_end W g s → BeginsWith m W g s ws hs vs gs low high words

-- the words and handles ts and is are those that the heap rested with, whatever was marked
abbrev pub GivesUp : ℕ → ℕ → ℕ → List ℕ → List ℕ → List ℕ → List ℕ → Type 0
GivesUp W low high vs gs ts is =
    (m : Meaning) (g : Graph) (s k : List Bool) (ws hs : List ℕ) → Rests m W g s ws hs → Begun m W g s k (drop W ws) vs gs low high → (ts ≡ ws) × (is ≡ hs)
