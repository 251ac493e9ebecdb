-- Sliding, by the places of before: where the kept objects stand once they alone do.
use Rattle.std.specs.Prelude.{◌≡◌, ℕ, ◌+◌, ◌-◌, ◌<◌, Bool, true, false, cond, ◌&&◌, List, length, nat_lt, slice_index_or}
use Rattle.scheme.specs.Meaning.{Meaning}
use Rattle.graph.specs.Graph.{Graph, object_at, size, is_record}
use Rattle.graph.specs.Reach.{Reachable, reachable, total}
use Rattle.graph.specs.Words.{record_stands, class_stands, place_of}
use Rattle.graph.specs.Sound.{Sound}

-- `stood` says which objects stood before, `kept` which of them stay
module _ (W : ℕ) (g : Graph) (stood kept : List Bool) where
  -- the size of object j, if it is a kept record that stood left of object q
  abbrev pub kept_left : ℕ → ℕ → ℕ
  kept_left q j = cond (record_stands g kept j && nat_lt (place_of W g stood j) (place_of W g stood q)) (size (object_at g j)) 0

  -- the size of object j, if it is a kept class that stood right of object q
  abbrev pub kept_right : ℕ → ℕ → ℕ
  kept_right q j = cond (class_stands g kept j && nat_lt (place_of W g stood q) (place_of W g stood j)) (size (object_at g j)) 0

pub record Slides (W : ℕ) (g : Graph) (stood kept : List Bool) : Type 0 where
  -- before a kept record there stand as many words as the kept records had that were on its left
  pub records :
      (q : ℕ) → slice_index_or kept q false ≡ true → is_record (object_at g q) ≡ true → place_of W g kept q ≡ total (kept_left W g stood kept q) (length g.objects)
  -- behind a kept class there stand as many words, up to W, as the kept classes had that were on its right
  pub classes :
      (q : ℕ) → slice_index_or kept q false ≡ true → is_record (object_at g q) ≡ false →
      place_of W g kept q + size (object_at g q) ≡ W - total (kept_right W g stood kept q) (length g.objects)
  -- objects of one side keep their order
  pub order :
      (p q : ℕ) → slice_index_or kept p false ≡ true → slice_index_or kept q false ≡ true → is_record (object_at g p) ≡ is_record (object_at g q) →
      nat_lt (place_of W g kept p) (place_of W g kept q) ≡ nat_lt (place_of W g stood p) (place_of W g stood q)
  -- which is that of their making, the oldest outermost
  pub oldest_left :
      (p q : ℕ) → slice_index_or kept p false ≡ true → slice_index_or kept q false ≡ true → is_record (object_at g p) ≡ true → is_record (object_at g q) ≡ true →
      p < q → place_of W g kept p < place_of W g kept q
  pub oldest_right :
      (p q : ℕ) → slice_index_or kept p false ≡ true → slice_index_or kept q false ≡ true → is_record (object_at g p) ≡ false → is_record (object_at g q) ≡ false →
      p < q → place_of W g kept q < place_of W g kept p

-- whatever of the standing objects is kept
abbrev pub KeptSlide : Type 0
KeptSlide =
    (m : Meaning) (W : ℕ) (g : Graph) (stood kept : List Bool) → Sound m W g stood → length kept ≡ length g.objects
    → ((q : ℕ) → slice_index_or kept q false ≡ true → slice_index_or stood q false ≡ true) → Slides W g stood kept

-- a collection keeps exactly the reachable objects, which all stand
abbrev pub ReachableSlide : Type 0
ReachableSlide =
    (m : Meaning) (W : ℕ) (g : Graph) (stood : List Bool) → Sound m W g stood
    → Slides W g stood (reachable g) × ((q : ℕ) → Reachable g q → slice_index_or stood q false ≡ true)
