use Rattle.std.proofs.Common.{rules}
use Rattle.input.proofs.Inputs.{all_written, lawful}
use Rattle.input.proofs.answer.Goals as goal

pub returns-clause-text : goal.returns-clause-text
returns-clause-text g c =
    all_written c.write_all.result (g.R.Read.remaining c.args.reader) c.in_ok-input.input.items c.as_bytes.result.now _ _ c.in_ok-input.ensures (search rules) c.write_all.ensures.bytes

pub returns-clause-laws : goal.returns-clause-laws
returns-clause-laws g c = lawful _ _ _ _ (returns-clause-text g c)
