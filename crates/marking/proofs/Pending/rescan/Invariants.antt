use Rattle.std.proofs.Common.{◌≡◌, ℕ, Bool, true, length, min}
use Rattle.space.specs.Weave.{view, Kept}
use Rattle.space.specs.Pass.{Plan, Course, Bounded, gap_by}
use Rattle.space.specs.Standing.{Standing}
use Rattle.marking.proofs.Walks.{Walking}
use Rattle.marking.proofs.Pending.rescan.Given as goal

abbrev pub invariant-walk : goal.invariant-walk
invariant-walk g l =
    let ws = g.M.Memory.words l.initial.space.memory in
    let hs = l.initial.space.handles in
    let vs = g.M.Memory.words l.space.memory in
    let m = g.S.Scheme.meaning l.scheme in
    let up = g.T.Side.upward in
    Kept ws hs vs l.space.handles
    × Bounded up (min (length ws) 16384) l.cursor l.end
    × ((P : Plan) (limit : ℕ) (so : Standing m P limit) (C : Course m P up) (all : (j : ℕ) → C.stands j ≡ true → C.kept j ≡ true) (chosen : ℕ → Bool) (roots rounds : ℕ) → P.n ≡ length ws → l.end ≡ C.old C.many →
    Walking m P limit so up C all chosen roots rounds l.initial.cursor (view ws hs) l.initial.self → Walking m P limit so up C all chosen roots rounds l.cursor (view vs l.space.handles) l.self)

abbrev pub decreases-walk : goal.decreases-walk
decreases-walk g l = gap_by g.T.Side.upward l.cursor l.end
