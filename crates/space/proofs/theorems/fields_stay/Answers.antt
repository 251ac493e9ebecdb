use Rattle.space.proofs.Collections.{fields-stay}
use Rattle.space.proofs.theorems.fields_stay.Goals as goal

pub returns : goal.returns
returns c = fields-stay
