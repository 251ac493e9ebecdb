use Rattle.std.proofs.Common.{◌≡◌, ℕ, ◌-◌, Bool, length}
use Rattle.space.specs.Weave.{view, Kept}
use Rattle.space.specs.Pass.{Plan}
use Rattle.space.specs.Standing.{Standing}
use Rattle.marking.specs.Marks.{Going, stage}
use Rattle.marking.proofs.Pending.drain.Given as goal

abbrev pub invariant-loop-turn : goal.invariant-loop-turn
invariant-loop-turn g l =
    let ws = g.M.Memory.words l.initial.space.memory in
    let hs = l.initial.space.handles in
    let vs = g.M.Memory.words l.space.memory in
    Kept ws hs vs l.space.handles
    × ((P : Plan) (limit roots : ℕ) (todo : ℕ → Bool) (rounds : ℕ) → Standing (g.S.Scheme.meaning l.scheme) P limit → P.n ≡ length ws →
    Going P limit (stage roots todo 16384 rounds) (view ws hs) l.initial.self →
    Going P limit (stage roots todo (16384 - l.turn) rounds) (view vs l.space.handles) l.self)
