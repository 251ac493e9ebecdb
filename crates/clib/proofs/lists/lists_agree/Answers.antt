use Rattle.clib.proofs.Runs.{lists_agree}
use Rattle.clib.proofs.lists.lists_agree.Goals as goal

pub returns : goal.returns
returns c = lists_agree
