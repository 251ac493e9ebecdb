use Rattle.std.proofs.Common.{◌≡◌, ℕ, ◌<◌, Bool, true, false, length}
use Rattle.space.specs.Weave.{view, Kept}
use Rattle.space.specs.Slots.{values_of}
use Rattle.space.specs.Pass.{Plan}
use Rattle.space.specs.Standing.{Standing}
use Rattle.space.proofs.Sweeps.{Sweep}
use Rattle.marking.specs.Marks.{Going, stage, also, marked}
use Rattle.marking.proofs.Steps.{onward}
use Rattle.marking.proofs.Pending.scan_slots.Given as goal

abbrev pub invariant-loop-i : goal.invariant-loop-i
invariant-loop-i g l =
    let ws = g.M.Memory.words l.initial.space.memory in
    let hs = l.initial.space.handles in
    let vs = g.M.Memory.words l.space.memory in
    ((k : ℕ) → k < 64 → values_of l.left k ≡ true → k < l.size)
    × Kept ws hs vs l.space.handles
    × ((P : Plan) (limit roots : ℕ) (todo : ℕ → Bool) (turns rounds : ℕ) → Standing (g.S.Scheme.meaning l.scheme) P limit → P.n ≡ length ws → marked P (view ws hs) l.place ≡ true → l.fn.header ≡ view ws hs l.place →
    values_of l.initial.left 0 ≡ false → Going P limit (stage roots (also P l.place todo) turns rounds) (view ws hs) l.initial.self →
    Sweep l.initial.left l.left 1 l.size (λ i. Going P limit (stage roots (onward P i l.place todo) turns rounds) (view vs l.space.handles) l.self))

abbrev pub decreases-loop-i : goal.decreases-loop-i
decreases-loop-i g l = l.left.values
