use Rattle.std.proofs.Common.{◌≡◌, ◌-◌, length}
use Rattle.space.specs.Weave.{view, Kept}
use Rattle.space.specs.Pass.{Plan}
use Rattle.space.specs.Standing.{Standing, Sides}
use Rattle.marking.specs.Marks.{count, Going, stage, nothing}
use Rattle.marking.proofs.Pending.settle.Given as goal

abbrev pub invariant-loop-round : goal.invariant-loop-round
invariant-loop-round g l =
    let ws = g.M.Memory.words l.initial.space.memory in
    let hs = l.initial.space.handles in
    let vs = g.M.Memory.words l.space.memory in
    Kept ws hs vs l.space.handles
    × ((P : Plan) → Standing (g.S.Scheme.meaning l.scheme) P l.bounds.limit → P.n ≡ length ws → Sides (g.S.Scheme.meaning l.scheme) P l.bounds.limit l.bounds.low l.bounds.high →
    Going P l.bounds.limit (stage 32 nothing 16384 16384) (view ws hs) l.initial.self → count l.initial.self ≡ 0 →
    Going P l.bounds.limit (stage 32 nothing 16384 (16384 - l.round)) (view vs l.space.handles) l.self × (count l.self ≡ 0))
