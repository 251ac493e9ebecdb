-- The number of an object's kind in its header.
use Rattle.std.specs.Prelude.{ℕ, cond, ◌==◌}
use Rattle.codec.specs.declared.header.Shape.{Shape}
use Rattle.codec.specs.declared.header.Shape.TheVariants.{Record, Layout, Map}

abbrev pub shape_number : Shape → ℕ
shape_number Record = 0
shape_number Layout = 1
shape_number Map = 2

-- the tag of a value word that refers to an object whose header has that kind: 2 for a record, 3 for a class
abbrev pub kind_tag : ℕ → ℕ
kind_tag kind = cond (kind == shape_number Record) 2 3
