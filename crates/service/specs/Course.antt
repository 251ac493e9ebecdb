-- A heap between the calls of a list.
use Rattle.std.specs.Prelude.{◌≡◌, List, [], ◌∷◌, ◌++◌}
use Rattle.scheme.specs.Meaning.{Meaning}
use Rattle.graph.specs.declared.Call.{Call}
use Rattle.graph.specs.Step.{Outcome}
use Rattle.heap.specs.Effects.{View, effect, Alters}
use Rattle.heap.specs.Views.{Follows}

-- What the contract of a call says of the heap as the call came and of the heap as it was answered: it followed the still graph, whatever graph
-- the heap rested with, and set the words that its row names and no others.
pub record MeetsCall (m : Meaning) (c : Call) (before after : View) (answer : Outcome) : Type 0 where
  pub follows : Follows m c before after answer
  pub alters : Alters (effect c before) before answer after

-- From one heap to another, a call at a time: `heaps` are the heap after each call, and `last` is the heap after all.
abbrev pub Steps : Meaning → View → List Call → List View → List Outcome → View → Type 0
Steps m heap [] [] [] last = last ≡ heap
Steps m heap (c ∷ calls) (next ∷ heaps) (answer ∷ answers) last = MeetsCall m c heap next answer × Steps m next calls heaps answers last
Steps m heap calls heaps answers last = ⊥

-- The heap was given the calls, which left it as `last`, and their answers stand behind those that were at hand.
pub record Continues (m : Meaning) (heap : View) (at_hand : List Outcome) (calls : List Call) (answers : List Outcome) (last : View) : Type 0 where
  pub heaps : List View
  pub new : List Outcome
  pub behind : answers ≡ at_hand ++ new
  pub steps : Steps m heap calls heaps new last
