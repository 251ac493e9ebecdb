use Rattle.std.proofs.Common.{◌∙◌}
use Rattle.readback.proofs.Told.{stays, by-prefix, by-mask}
use Rattle.readback.proofs.answers.Goals as goal

pub returns-clause-stays : goal.returns-clause-stays
returns-clause-stays g c = stays _ _ _ _ c.in_ok-answers.ensures.served.answered

pub returns-clause-by_prefix : goal.returns-clause-by_prefix
returns-clause-by_prefix g c = λ e long same. c.in_ok-answers.ensures.served.answered ∙ by-prefix _ _ _ long same e

pub returns-clause-by_mask : goal.returns-clause-by_mask
returns-clause-by_mask g c = λ e long same. c.in_ok-answers.ensures.served.answered ∙ by-mask _ _ _ long same e
