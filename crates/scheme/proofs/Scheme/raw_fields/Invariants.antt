use Rattle.std.proofs.Common.{◌≡◌, ℕ, ◌/◌, ◌%◌, ◌^◌, ◌<◌, ◌&&◌, eqb, ltb}
use Rattle.scheme.specs.Meaning.{is_raw}
use Rattle.scheme.proofs.Scheme.raw_fields.Given as goal

-- the bits below i are answered
abbrev pub invariant-loop-i : goal.invariant-loop-i
invariant-loop-i g l = (k : ℕ) → k < 32 → eqb (l.fields / 2 ^ k % 2) 1 ≡ (ltb k l.i && is_raw (g.Self.Scheme.meaning l.self) l.rule k)
