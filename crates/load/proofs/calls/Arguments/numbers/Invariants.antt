use Rattle.std.proofs.Common.{◌≡◌, length}
use Rattle.load.specs.Calls.{values_in}
use Rattle.load.proofs.ByColumn.{Reads}
use Rattle.load.proofs.calls.Arguments.numbers.Given as goal

abbrev pub invariant-loop-place : goal.invariant-loop-place
invariant-loop-place g l = record {
  held : length l.numbers ≡ g.row.N;
  reads : Reads g.row.N (values_in l.self) l.place l.numbers;
}
