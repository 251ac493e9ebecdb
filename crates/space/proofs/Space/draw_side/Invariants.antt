use Rattle.std.proofs.Common.{◌≡◌, length}
use Rattle.space.specs.Weave.{view, Kept}
use Rattle.space.specs.Pass.{Plan, Planned, Course, Bounded, gap_by}
use Rattle.space.proofs.Walk.{Scan}
use Rattle.space.proofs.Space.draw_side.Given as goal

abbrev pub invariant-walk : goal.invariant-walk
invariant-walk g l =
    let ws = g.M.Memory.words l.initial.self.memory in
    let vs = g.M.Memory.words l.self.memory in
    let m = g.S.Scheme.meaning l.scheme in
    let up = g.T.Side.upward in
    Kept ws l.initial.self.handles vs l.self.handles
    × Bounded up l.limit l.cursor l.end
    × ((P : Plan) (C : Course m P up) → Planned P → P.n ≡ length ws → l.end ≡ C.old C.many → Scan m P up C l.initial.to l.initial.cursor (view ws l.initial.self.handles) →
    Scan m P up C l.to l.cursor (view vs l.self.handles))

abbrev pub decreases-walk : goal.decreases-walk
decreases-walk g l = gap_by g.T.Side.upward l.cursor l.end
