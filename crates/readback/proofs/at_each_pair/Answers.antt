use Rattle.std.proofs.Common.{replicate, refl}
use Rattle.memory.proofs.Wordwise.{length-words}
use Rattle.readback.proofs.at_each_pair.Goals as goal

pub returns : goal.returns
returns c =
    let calls = c.stored_calls-calls.ensures in
    record {
      words_under_prefix = c.in_ok-answers.ensures.by_prefix refl refl calls;
      words_under_mask = c.in_ok-answers-2.ensures.by_mask refl refl calls;
      bytes_under_prefix = c.in_ok-answers-3.ensures.by_prefix refl (length-words (replicate 131 0)) calls;
      bytes_under_mask = c.in_ok-answers-4.ensures.by_mask refl (length-words (replicate 131 0)) calls;
    }
