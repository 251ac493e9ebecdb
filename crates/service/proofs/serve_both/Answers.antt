use Rattle.service.proofs.Laws.{alike}
use Rattle.service.proofs.serve_both.Goals as goal

pub returns-clause-alike : goal.returns-clause-alike
returns-clause-alike g c = λ means long same. search (alike, means, long, same, c.serve_reserved-one.ensures.served, c.serve_reserved-other.ensures.served)
