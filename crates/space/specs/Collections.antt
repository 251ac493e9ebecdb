-- What a collection keeps of the objects and handles, in the words of the graph.
use Rattle.std.specs.Prelude.{◌≡◌, ℕ, ◌+◌, ◌<◌, Bool, true, false, List, slice_index, slice_index_or}
use Rattle.scheme.specs.Meaning.{Meaning}
use Rattle.graph.specs.Graph.{Value, object, Object, Graph, held, object_at, size}
use Rattle.graph.specs.Reach.{Names}
use Rattle.graph.specs.Words.{place_of, reference}
use Rattle.graph.specs.Places.{is_object, refers_at}
use Rattle.space.specs.Layout.{Begun}
use Rattle.space.specs.Collect.{Ended}

module _ (W : ℕ) (g : Graph) (s k : List Bool) where
  -- word i of an object: a reference goes to the same object at its new place, any other word is as it was
  pub record SameWord (o : Object) (i before after : ℕ) : Type 0 where
    pub refers : refers_at o i ≡ true → (t : ℕ) × Names o t × (slice_index_or k t false ≡ true) × (before ≡ reference W g s t) × (after ≡ reference W g k t)
    pub plain : refers_at o i ≡ false → after ≡ before

  pub record SameHandle (v : Value) (before after : ℕ) : Type 0 where
    pub refers : (t : ℕ) → v ≡ object t → (slice_index_or k t false ≡ true) × (before ≡ reference W g s t) × (after ≡ reference W g k t)
    pub plain : is_object v ≡ false → after ≡ before

-- after a collection the words of each kept object are, at its new place, those of before, and so are the handles
abbrev pub FieldsStay : Type 0
FieldsStay =
    (m : Meaning) (W : ℕ) (g : Graph) (s k : List Bool) (rest words handles words' handles' : List ℕ) (low high low' high' : ℕ) →
    Begun m W g s k rest words handles low high → Ended m W g k rest words' handles' low' high' →
    ((q i : ℕ) → slice_index_or k q false ≡ true → 0 < i → i < size (object_at g q) → SameWord W g s k (object_at g q) i (slice_index words (place_of W g s q + i)) (slice_index words' (place_of W g k q + i)))
    × ((h : ℕ) → h < 32 → SameHandle W g s k (held g h) (slice_index handles h) (slice_index handles' h))
