use Rattle.std.proofs.Common.{subst}
use Rattle.heap.specs.Effects.{View}
use Rattle.heap.specs.Phases.{GivesUp}
use Rattle.heap.specs.Views.{view}
use Rattle.service.proofs.Shown.{looked_in}
use Rattle.view.proofs.printer.PrinterOnlooker.look.Goals as goal

pub returns-clause-kept : goal.returns-clause-kept
returns-clause-kept g c =
    let words = g.M.Memory.words in
    let meaning = g.S.Scheme.meaning in
    let begun = c.begin-begun in
    let v : View = view {S = g.row.S.Denot} words c.args.heap in
    let marked : View = view {S = g.row.S.Denot} words begun.result.heap in
    let w : View = view {S = g.row.S.Denot} words c.give_up.result in
    looked_in (meaning c.args.heap.scheme) c.args.calls.now c.args.answers.now v marked w begun.result.live c.requires.shown begun.ensures.begins
    (subst (λ s. GivesUp (meaning s) marked w) begun.ensures.scheme c.give_up.ensures.rests)
