use Rattle.std.proofs.Common.{sym}
use Rattle.memory.proofs.Wordwise.{length-words}
use Rattle.memory.proofs.bytes.RefMutSliceU8Memory.length.Goals as goal

pub returns : goal.returns
returns c = sym (length-words c.args.self.now.now)
