use Rattle.std.proofs.Common.{◌≡◌, ℕ, length}
use Rattle.scheme.specs.Meaning.{Meaning}
use Rattle.space.specs.Weave.{view, Kept}
use Rattle.space.specs.Pass.{Plan, Planned, Course, Renewed, Bounded, gap_by}
use Rattle.space.proofs.Backs.{Back}
use Rattle.space.proofs.Cursors.{Behind}
use Rattle.space.proofs.Space.close_side.Given as goal

abbrev pub decreases-walk : goal.decreases-walk
decreases-walk g l = gap_by g.T.Side.upward l.cursor l.end

-- The memory keeps its length, the cursor its bound; and under a plan the objects behind the cursor are closed.
abbrev pub invariant-walk : goal.invariant-walk
invariant-walk g l =
    let ws = g.M.Memory.words l.initial.self.memory in
    let vs = g.M.Memory.words l.self.memory in
    let up = g.T.Side.upward in
    Kept ws l.initial.self.handles vs l.self.handles
    × Bounded up l.limit l.cursor l.end
    × Behind up l.limit l.cursor l.to
    × ((m : Meaning) (P : Plan) (C : Course m P up) (first : ℕ → ℕ) → Planned P → P.n ≡ length ws → l.end ≡ C.old C.many → Renewed C first → C.old 0 ≡ C.new 0 →
    Back m P up C first l.initial.to l.initial.cursor (view ws l.initial.self.handles) → Back m P up C first l.to l.cursor (view vs l.self.handles))
