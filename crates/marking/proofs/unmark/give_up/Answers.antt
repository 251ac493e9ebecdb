use Rattle.marking.proofs.Bridge.{gives_up}
use Rattle.marking.proofs.unmark.give_up.Goals as goal

pub returns : goal.returns
returns g c =
    let low = c.unmark_side.ensures in
    let high = c.unmark_side-2.ensures in
    gives_up c.args.bounds.limit c.args.bounds.low c.args.bounds.high _ _ _ _ _ _ _ _ _ c.limit-limit.ensures c.min.ensures c.min-2.ensures low.unmarked low.kept high.unmarked high.kept
