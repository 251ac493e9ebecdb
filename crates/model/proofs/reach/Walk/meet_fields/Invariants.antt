use Rattle.std.proofs.Common.{◌≤◌}
use Rattle.model.specs.Walks.{work}
use Rattle.model.proofs.reach.Walk.meet_fields.Given as goal

abbrev pub invariant-loop-field : goal.invariant-loop-field
invariant-loop-field l = work l.self ≤ work l.initial.self
