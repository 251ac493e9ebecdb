use Rattle.std.proofs.Common.{◌≤◌, length}
use Rattle.trials.proofs.picture.classes_begin.Given as goal

abbrev pub invariant-loop-begin : goal.invariant-loop-begin
invariant-loop-begin l = l.begin ≤ length l.words

-- each boundary tag leads further down
abbrev pub decreases-loop-begin : goal.decreases-loop-begin
decreases-loop-begin l = l.begin
