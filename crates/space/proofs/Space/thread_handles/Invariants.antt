use Rattle.std.proofs.Common.{◌≡◌, ◌+◌, length}
use Rattle.space.specs.Weave.{view, Kept}
use Rattle.space.specs.Pass.{Plan, Planned, Handles, Forward}
use Rattle.space.proofs.Space.thread_handles.Given as goal

abbrev pub invariant-loop-h : goal.invariant-loop-h
invariant-loop-h g l =
    let ws = g.M.Memory.words l.initial.self.memory in
    let vs = g.M.Memory.words l.self.memory in
    ((P : Plan) → Planned P → P.n ≡ length ws → Handles P → view ws l.initial.self.handles ≡ P.words →
    Forward P 0 (16384 + l.h) 0 (view vs l.self.handles))
    × Kept ws l.initial.self.handles vs l.self.handles
