use Rattle.std.proofs.Common.{◌≡◌, ◌++◌, vec_items}
use Rattle.graph.specs.Runs.{to_others}
use Rattle.dispatch.proofs.twice.told_to_others.Given as goal

-- what was told, and what is left to tell
abbrev pub invariant-loop-call : goal.invariant-loop-call
invariant-loop-call l = vec_items l.told ++ to_others l.call-iterator.a.rest.now l.call-iterator.b.rest.now ≡ to_others l.calls l.answers
