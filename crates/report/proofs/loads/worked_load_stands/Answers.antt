use Rattle.std.proofs.Common.{refl}
use Rattle.std.specs.Fmt.{digits}
use Rattle.report.proofs.loads.worked_load_stands.Goals as goal

pub returns : goal.returns
unfolding digits
returns c = refl
