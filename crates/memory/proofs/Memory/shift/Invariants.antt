use Rattle.std.proofs.Common.{◌≡◌, ℕ, length, get_or, ltb}
use Rattle.memory.proofs.Ranges.{shifted_by}
use Rattle.memory.proofs.Memory.shift.Given as goal

abbrev pub invariant-loop-i : goal.invariant-loop-i
invariant-loop-i g l =
    let ws = g.Self.Memory.words l.initial.self in
    let vs = g.Self.Memory.words l.self in
    record {
      kept : length vs ≡ length ws;
      words : (k : ℕ) → get_or vs k 0 ≡ shifted_by (ltb l.to l.from) ws l.from l.to l.size l.i k;
    }
