use Rattle.std.proofs.Common.{◌≡◌, ℕ, ◌≤◌, length, get_or}
use Rattle.memory.specs.Ranges.{cleared}
use Rattle.memory.proofs.Memory.clear.Given as goal

-- `none`: where the end is at or before the first place, no word is cleared
abbrev pub invariant-loop-place : goal.invariant-loop-place
invariant-loop-place g l =
    let ws = g.Self.Memory.words l.initial.self in
    let vs = g.Self.Memory.words l.self in
    record {
      kept : length vs ≡ length ws;
      none : l.place-end ≤ l.from → l.place ≡ l.from;
      words : (k : ℕ) → get_or vs k 0 ≡ cleared ws l.from l.place k;
    }
