use Rattle.std.proofs.Common.{◌≡◌, ℕ, ◌+◌, ◌<◌, true, false, length}
use Rattle.space.specs.Weave.{view, Kept}
use Rattle.space.specs.Slots.{values_of}
use Rattle.space.specs.Pass.{Plan, Planned, Region, Forward}
use Rattle.space.proofs.Sweeps.{Sweep}
use Rattle.space.proofs.Space.thread_words.Given as goal

abbrev pub invariant-loop-i : goal.invariant-loop-i
invariant-loop-i g l =
    let ws = g.M.Memory.words l.initial.self.memory in
    let vs = g.M.Memory.words l.self.memory in
    ((k : ℕ) → k < 64 → values_of l.left k ≡ true → k < l.size)
    × Kept ws l.initial.self.handles vs l.self.handles
    × ((P : Plan) (j : ℕ) → Planned P → P.n ≡ length ws → 1 < l.size → values_of l.initial.left 0 ≡ false → Region P j l.place (values_of l.initial.left) 1 l.size →
    Forward P j (l.place + 1) j (view ws l.initial.self.handles) → Sweep l.initial.left l.left 1 l.size (λ a. Forward P j (l.place + a) j (view vs l.self.handles)))

abbrev pub decreases-loop-i : goal.decreases-loop-i
decreases-loop-i g l = l.left.values
