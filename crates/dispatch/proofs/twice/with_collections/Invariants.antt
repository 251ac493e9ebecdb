use Rattle.std.proofs.Common.{◌≡◌, ◌*◌, length, take, vec_items}
use Rattle.graph.specs.Runs.{others}
use Rattle.dispatch.proofs.twice.with_collections.Given as goal

abbrev pub invariant-loop-call : goal.invariant-loop-call
invariant-loop-call l = (others (vec_items l.all) ≡ others (take l.call-index l.calls)) × (length (vec_items l.all) ≡ 2 * l.call-index)
