use Rattle.input.proofs.Inputs.{limited}
use Rattle.input.proofs.read_load.Goals as goal

pub returns : goal.returns
returns g c =
    limited g.R.Read.remaining _ c.take.result 65537 _ c.read_to_end.new.buf.items c.take.ensures.limit c.take.ensures.inner c.in_ok-input.ensures.items c.in_ok-read_to_end.ensures.bytes
