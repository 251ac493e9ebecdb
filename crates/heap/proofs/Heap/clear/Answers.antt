use Rattle.std.proofs.Common.{refl}
use Rattle.graph.specs.declared.Call.TheVariants.{Clear}
use Rattle.graph.specs.Graph.{empty}
use Rattle.heap.proofs.Judging.{all_pass}
use Rattle.heap.proofs.Acts.{sets-done}
use Rattle.heap.proofs.Exits.{ends}
use Rattle.heap.proofs.Heap.clear.Goals as goal

pub returns : goal.returns
returns g c =
    ends _ _ (Clear c.args.handle) _ _ _ refl refl refl λ gr s st. sets-done _ (Clear c.args.handle) _ gr s st c.args.handle _ empty refl (all_pass c.in_ok-check_handle.ensures) refl
