use Rattle.std.proofs.Common.{sym, arith}
use Rattle.std.proofs.lemmas.List.{set_past}
use Rattle.memory.proofs.words.RefMutSliceU32Memory.write.Goals as goal

pub returns-else-place-self-clause-word : goal.returns-else-place-self-clause-word
returns-else-place-self-clause-word c = sym (set_past _ _ _ (omega arith))
