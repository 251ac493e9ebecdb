use Rattle.space.proofs.Masks.{class-reads}
use Rattle.space.proofs.classes.ClassesSide.slots.Goals as goal

pub returns : goal.returns
returns g c = λ e. class-reads _ _ _ _ _ e c.slots_of_class.ensures
