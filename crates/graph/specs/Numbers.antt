-- The numbers of the enums that calls answer.
use Rattle.std.specs.Prelude.{ℕ}
use Rattle.graph.specs.declared.Refusal.{Refusal}
use Rattle.graph.specs.declared.Refusal.TheVariants.{NoHandle, NoNumber, TooWide, NoPart, NoRule, OtherKind, NoField, OtherField, Full}
use Rattle.graph.specs.declared.Kind.{Kind}
use Rattle.graph.specs.declared.Kind.TheVariants.{Empty, Number, Record, Layout, Map}

-- The number and the position that a refusal carries.

abbrev pub refusal_number : Refusal → ℕ
refusal_number (NoHandle at) = 11
refusal_number (NoNumber at) = 12
refusal_number (TooWide at) = 13
refusal_number (NoPart at) = 14
refusal_number (NoRule at) = 15
refusal_number (OtherKind at) = 21
refusal_number (NoField at) = 22
refusal_number (OtherField at) = 23
refusal_number Full = 31

abbrev pub refusal_position : Refusal → ℕ
refusal_position (NoHandle at) = at
refusal_position (NoNumber at) = at
refusal_position (TooWide at) = at
refusal_position (NoPart at) = at
refusal_position (NoRule at) = at
refusal_position (OtherKind at) = at
refusal_position (NoField at) = at
refusal_position (OtherField at) = at
refusal_position Full = 0

-- the number of a kind
abbrev pub kind_number : Kind → ℕ
kind_number Empty = 0
kind_number Number = 1
kind_number Record = 2
kind_number Layout = 3
kind_number Map = 4
