use Rattle.std.proofs.Common.{get_or}
use Rattle.graph.specs.Places.{refers}
use Rattle.space.proofs.Masks.{Gathered}
use Rattle.space.proofs.slot.Slots.of_handles.Given as goal

-- the handles below h are answered
abbrev pub invariant-loop-h : goal.invariant-loop-h
invariant-loop-h l = Gathered (λ k. refers (get_or l.handles k 0)) l.values l.h
