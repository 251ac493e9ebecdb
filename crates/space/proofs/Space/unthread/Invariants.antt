use Rattle.std.proofs.Common.{◌≡◌, ℕ, ◌-◌, ◌%◌, ◌<◌, ◌≤◌, List, length}
use Rattle.space.specs.Weave.{view, Strand}
use Rattle.space.proofs.Following.{Onward}
use Rattle.space.proofs.Space.unthread.Given as goal

abbrev pub invariant-list : goal.invariant-list
invariant-list g l =
    let look = view (g.M.Memory.words l.self.memory) l.self.handles in
    ((stop : ℕ) (ss : List ℕ) → stop % 2 ≡ 1 → Strand look l.initial.word ss stop → Onward look stop (length ss) l.word l.turns) × (l.word < 4294967296) × (l.turns ≤ 16416)

abbrev pub decreases-list : goal.decreases-list
decreases-list g l = 16416 - l.turns
