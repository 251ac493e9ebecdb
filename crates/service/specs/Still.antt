-- What no list of calls can tell: a heap is the still graph, in which nothing ever moves.
use Rattle.std.specs.Prelude.{◌≡◌, ℕ, min, Bool, true, List, [], ◌∷◌, ◌++◌, length, take, drop, replicate, pos, Ok, slice_index_or}
use Rattle.scheme.specs.Meaning.{Meaning}
use Rattle.graph.specs.declared.Call.{Call}
use Rattle.graph.specs.Graph.{Graph, bare}
use Rattle.graph.specs.Step.{Outcome, run}
use Rattle.graph.specs.Words.{image, handle_words}
use Rattle.graph.specs.Advance.{start, advances}
use Rattle.graph.specs.Runs.{packs, others, to_others}
use Rattle.heap.specs.Effects.{View, parts}
use Rattle.heap.specs.Views.{Stands}
use Rattle.heap.specs.Collected.{LeavesCollected}
use Rattle.service.specs.Course.{Steps}
use Rattle.service.specs.Moments.{Collects, Differs}

-- how many words of a memory are a heap's: all, or 16,384 where there are more
abbrev pub heap_words : List ℕ → ℕ
heap_words memory = min (length memory) 16384

-- a new heap over a memory of these words: its own are 0, its handles empty, and nothing stands on either side
abbrev pub new_heap : List ℕ → View
new_heap memory = let W = heap_words memory in parts (replicate W 0 ++ drop W memory) (replicate 32 0) 0 W W

-- the still graph after a list of calls, what it answers, and which of its objects stand in the memory
module _ (m : Meaning) (memory : List ℕ) (calls : List Call) where
  abbrev pub graph_of : Graph
  graph_of = (run m (heap_words memory) calls bare).1

  abbrev pub answers_of : List Outcome
  answers_of = (run m (heap_words memory) calls bare).0

  abbrev pub standing_after : List Bool
  standing_after = (advances m (heap_words memory) calls start).1.standing

-- The heap after a list of calls.
pub record HeapAfter (m : Meaning) (memory : List ℕ) (calls : List Call) (heap : View) : Type 0 where
  -- it has the first W words
  pub limit : heap.limit ≡ heap_words memory
  -- they, the handles and the ends of the sides are those of the still graph and of what stands of it
  pub stands : Stands m heap (graph_of m memory calls) (standing_after m memory calls)
  pub words : take (heap_words memory) heap.words ≡ image (heap_words memory) (graph_of m memory calls) (standing_after m memory calls) []
  pub handles : heap.handles ≡ handle_words (heap_words memory) (graph_of m memory calls) (standing_after m memory calls)
  -- later words are as they were
  pub later : drop (heap_words memory) heap.words ≡ drop (heap_words memory) memory

-- A call that was given after the calls `front`: the heap as it came, its answer, and the heap then.
pub record Moment (m : Meaning) (memory : List ℕ) (front : List Call) (c : Call) (before : View) (answer : Outcome) (after : View) : Type 0 where
  pub came : HeapAfter m memory front before
  pub left : HeapAfter m memory (front ++ (c ∷ [])) after
  -- which words differ
  pub differs : Differs m (heap_words memory) (graph_of m memory front) (standing_after m memory front) c before answer after
  -- at the end of a collection, at once or by steps, and after refusal 31 each reachable object has slid to its place
  pub collected : Collects c answer → LeavesCollected m before after

-- A list of calls, given to a new heap over a memory of these words, was answered so and left the heap so.
pub record ServedAs (m : Meaning) (memory : List ℕ) (calls : List Call) (answers : List Outcome) (heap : View) : Type 0 where
  -- the answers, the refusals and their positions are the still graph's
  pub answered : answers ≡ answers_of m memory calls
  -- the heap is the one after the list
  pub after : HeapAfter m memory calls heap
  -- the heap after each call, from the new heap to the last, each step by the contract of its call
  pub heaps : List View
  pub steps : Steps m (new_heap memory) calls heaps answers heap
  -- and so it was at each call, wherever it stands in the list
  pub moments :
      (front : List Call) (c : Call) (back : List Call) → calls ≡ front ++ (c ∷ back) →
      Moment m memory front c (slice_index_or (new_heap memory ∷ heaps) (length front) heap) (slice_index_or answers (length front) (Ok (pos 0)))
      (slice_index_or heaps (length front) heap)

-- A heap that a new one became by these calls, with these answers, over a memory of whatever words.
pub record Shown (m : Meaning) (calls : List Call) (answers : List Outcome) (heap : View) : Type 0 where
  pub memory : List ℕ
  pub served : ServedAs m memory calls answers heap

-- Whatever list over a new heap left this heap, with answers of which those at hand are the last: with the calls behind it, it is one list.
abbrev pub AsOneList : Meaning → View → List Outcome → List Call → List Outcome → View → Type 0
AsOneList m heap at_hand calls answers last =
    (memory : List ℕ) (front : List Call) (earlier : List Outcome) → ServedAs m memory front (earlier ++ at_hand) heap
    → ServedAs m memory (front ++ calls) (earlier ++ answers) last

-- a list whose last call collects, at once or by steps
abbrev pub EndsCollected : List Call → Type 0
EndsCollected calls = (front : List Call) × (last : Call) × (calls ≡ front ++ (last ∷ [])) × (packs last ≡ true)

-- Two heaps, each after a list of its own, cannot be told apart.
pub record Alike (m : Meaning) (memory : List ℕ) (calls : List Call) (answers : List Outcome) (heap : View) (memory' : List ℕ) (calls' : List Call) (answers' : List Outcome) (heap' : View) : Type 0 where
  -- all calls that are no collections have the same answers
  pub told : to_others calls answers ≡ to_others calls' answers'
  -- both stand for one still graph
  pub graph : graph_of m memory calls ≡ graph_of m memory' calls'
  -- and where a collection was the last call of each, their words are the same, whatever the memories had before
  pub words :
      EndsCollected calls → EndsCollected calls' →
      (take (heap_words memory) heap.words ≡ take (heap_words memory') heap'.words) × (heap.handles ≡ heap'.handles)

-- Collections are unnoticed: whatever other list was given to whatever other new heap of as many words, where the lists differ only in their
-- collections, at once, by steps or given up, the two cannot be told apart.
abbrev pub Unnoticed : Meaning → List ℕ → List Call → List Outcome → View → Type 0
Unnoticed m memory calls answers heap =
    (memory' : List ℕ) (calls' : List Call) (answers' : List Outcome) (heap' : View)
    → ServedAs m memory' calls' answers' heap' → heap_words memory ≡ heap_words memory' → others calls ≡ others calls'
    → Alike m memory calls answers heap memory' calls' answers' heap'
