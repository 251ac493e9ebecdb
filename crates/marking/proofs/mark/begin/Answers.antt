use Rattle.std.proofs.Common.{length, refl, ap}
use Rattle.marking.proofs.Bridge.{begins}
use Rattle.marking.proofs.mark.begin.Goals as goal

pub returns : goal.returns
returns g c =
    begins _ c.args.bounds.limit c.args.bounds.low c.args.bounds.high _ _ _ _ _ _ _ _ c.settle.new.self (ap length c.new.ensures) refl refl refl c.mark_handles.ensures.kept c.mark_handles.ensures.rooted c.settle.ensures.kept c.settle.ensures.settled
