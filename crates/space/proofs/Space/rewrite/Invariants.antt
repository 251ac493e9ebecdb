use Rattle.std.proofs.Common.{ℕ, length}
use Rattle.space.specs.Weave.{view, Kept}
use Rattle.space.proofs.Following.{Run}
use Rattle.space.proofs.Space.rewrite.Given as goal

abbrev pub invariant-loop-turn : goal.invariant-loop-turn
invariant-loop-turn g l =
    let ws = g.M.Memory.words l.initial.self.memory in
    let vs = g.M.Memory.words l.self.memory in
    ((stop : ℕ) (goal : ℕ → ℕ) →
    Run (length ws) l.reference stop l.turns goal (view ws l.initial.self.handles) l.initial.link 0 →
    Run (length ws) l.reference stop l.turns goal (view vs l.self.handles) l.link l.turn)
    × Kept ws l.initial.self.handles vs l.self.handles
