-- Where a new object goes, innermost on its side.
use Rattle.std.specs.Prelude.{ℕ, ◌+◌, ◌-◌, Bool, true, false, min}
use Rattle.space.specs.declared.Bounds.{Bounds}

-- the place of a new object of so many words
abbrev pub innermost : Bool → Bounds → ℕ → ℕ
innermost true b n = b.low
innermost false b n = b.high - n

-- the bounds with it
abbrev pub taken : Bool → Bounds → ℕ → Bounds
taken true b n = record { low = min (b.low + n) 4294967295; high = b.high; limit = b.limit }
taken false b n = record { low = b.low; high = b.high - n; limit = b.limit }

-- the tag of a reference to an object of the side
abbrev pub tag_by : Bool → ℕ
tag_by true = 2
tag_by false = 3
