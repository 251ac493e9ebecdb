-- How much a walk over the objects still has to do.
use Rattle.std.specs.Prelude.{ℕ, ◌+◌, ◌*◌, not, length, count_by}
use Rattle.model.specs.declared.reach.Walk.{Walk}

-- an object that is met becomes pending, and one that is followed is so no more
abbrev pub work : Walk → ℕ
work w = 2 * count_by not w.seen.items + length w.pending.items
