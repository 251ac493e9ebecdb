use Rattle.std.proofs.Common.{◌-◌, length}
use Rattle.trials.proofs.picture.records_end.Given as goal

-- each header leads further up
abbrev pub decreases-loop-header : goal.decreases-loop-header
decreases-loop-header l = length l.words - l.end
