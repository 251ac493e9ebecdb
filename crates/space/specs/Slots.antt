-- Which words of an object hold values, and where a reference stands.
use Rattle.std.specs.Prelude.{◌≡◌, ℕ, ◌+◌, ◌/◌, ◌%◌, ◌^◌, ◌<◌, ◌==◌, ◌&&◌, Bool, true, false, not, List, Option, MatchOption, slice_index}
use Rattle.scheme.specs.Meaning.{Meaning}
use Rattle.graph.specs.Places.{value_at}
use Rattle.space.specs.Pass.{rule_at}
use Rattle.space.specs.declared.slot.Slots.{Slots}
use Rattle.space.specs.declared.thread.Slot.{Slot}
use Rattle.space.specs.declared.thread.Slot.TheVariants.{Word, Handle}

-- bit i says it of word i
abbrev pub values_of : Slots → ℕ → Bool
values_of s i = (s.values / 2 ^ i % 2 == 1)

-- of the object at p of the words ws, with the header h: by its kind, and of a record by its layout's map's rule
pub record Reads (m : Meaning) (ws : List ℕ) (p h : ℕ) (s : Slots) : Type 0 where
  pub rule : ℕ
  pub ruled : h / 4 % 4 ≡ 0 → rule ≡ rule_at (slice_index ws) p
  pub values : (i : ℕ) → i < 64 → values_of s i ≡ value_at m (h / 4 % 4) rule i

-- the first is taken out of s, which leaves t
pub record First (s t : Slots) (i : ℕ) : Type 0 where
  pub small : i < 64
  pub holds : values_of s i ≡ true
  pub first : (k : ℕ) → k < i → values_of s k ≡ false
  pub rest : (k : ℕ) → k < 64 → values_of t k ≡ (values_of s k && not (k == i))
  pub fewer : t.values < s.values

abbrev pub Popped : Slots → Slots → Option ℕ → Type 0
Popped s t r = MatchOption r ((k : ℕ) → values_of s k ≡ false) (First s t)

-- the address of a slot, and that it is there, n words being there to use
abbrev pub address : Slot → ℕ
address (Word p) = p
address (Handle h) = 16384 + h

abbrev pub There : ℕ → Slot → Type 0
There n (Word p) = p < n
There n (Handle h) = h < 32
