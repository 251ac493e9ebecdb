-- The order in which objects are marked. It is left free; which objects are marked is not.
use Rattle.std.specs.Prelude.{◌≡◌, ℕ, Bool, true, false, List, [], ◌∷◌}
use Rattle.graph.specs.Graph.{object, Graph, held, object_at}
use Rattle.graph.specs.Reach.{Names, Reachable, has, mark_all, unmarked, reachable}

-- objects in an order in which marking may come to them, the latest first: each is marked once, because a
-- handle names it, or an object that is marked already
pub data Marking (g : Graph) : List ℕ → Type 0 where
  none : Marking g []
  for_handle :
      {marked : List ℕ} (h q : ℕ) → Marking g marked →
      has marked q ≡ false → held g h ≡ object q → Marking g (q ∷ marked)
  for_object :
      {marked : List ℕ} (p q : ℕ) → Marking g marked →
      has marked q ≡ false → has marked p ≡ true → Names (object_at g p) q → Marking g (q ∷ marked)

-- an order of marking, to its end: all that a handle or a marked object names is marked
pub record OrderOfMarking (g : Graph) (order : List ℕ) : Type 0 where
  pub marking : Marking g order
  pub handles_done : (h q : ℕ) → held g h ≡ object q → has order q ≡ true
  pub objects_done : (p q : ℕ) → has order p ≡ true → Names (object_at g p) q → has order q ≡ true

-- one truth for each object: whether it has been marked
abbrev pub marks_of : Graph → List ℕ → List Bool
marks_of g order = mark_all order 0 (unmarked g.objects)

-- exactly the reachable objects are marked
pub record MarkedExactly (g : Graph) (order : List ℕ) : Type 0 where
  pub only : (q : ℕ) → has order q ≡ true → Reachable g q
  pub every : (q : ℕ) → Reachable g q → has order q ≡ true
  pub marks : marks_of g order ≡ reachable g

-- which objects are marked does not depend on the order
abbrev pub OrderIsFree : Type 0
OrderIsFree = (g : Graph) (order : List ℕ) → OrderOfMarking g order → MarkedExactly g order

-- and every graph has such an order
abbrev pub OrderExists : Type 0
OrderExists = (g : Graph) → (order : List ℕ) × OrderOfMarking g order
