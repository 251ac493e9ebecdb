use Rattle.std.proofs.Common.{◌≡◌, ℕ, ◌<◌, true, length}
use Rattle.scheme.specs.Meaning.{Meaning}
use Rattle.space.specs.Weave.{view, Kept}
use Rattle.space.specs.Pass.{Plan}
use Rattle.space.specs.Slots.{values_of}
use Rattle.space.specs.Standing.{Standing}
use Rattle.space.proofs.Sweeps.{Sweep}
use Rattle.marking.specs.Marks.{Going, stage, nothing}
use Rattle.marking.proofs.Pending.mark_handles.Given as goal

abbrev pub invariant-loop-h : goal.invariant-loop-h
invariant-loop-h g l =
    let ws = g.M.Memory.words l.initial.space.memory in
    let hs = l.initial.space.handles in
    let vs = g.M.Memory.words l.space.memory in
    ((k : ℕ) → k < 64 → values_of l.left k ≡ true → k < 32)
    × Kept ws hs vs l.space.handles
    × ((m : Meaning) (P : Plan) (limit : ℕ) → Standing m P limit → P.n ≡ length ws →
    Going P limit (stage 0 nothing 16384 16384) (view ws hs) l.initial.self →
    Sweep l.initial.left l.left 0 32 (λ h. Going P limit (stage h nothing 16384 16384) (view vs l.space.handles) l.self))

abbrev pub decreases-loop-h : goal.decreases-loop-h
decreases-loop-h g l = l.left.values
