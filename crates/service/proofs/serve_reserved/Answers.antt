use Rattle.std.proofs.Common.{[], sym, ◌∙◌, subst}
use Rattle.heap.specs.Views.{view}
use Rattle.service.specs.Still.{ServedAs}
use Rattle.service.proofs.Laws.{unnoticed}
use Rattle.service.proofs.serve_reserved.Goals as goal

pub returns : goal.returns
returns g c =
    let new = c.new.ensures in
    let words = g.M.Memory.words in
    let memory = words c.args.memory in
    let meaning = g.S.Scheme.meaning in
    let calls = c.args.calls.now in
    let at_hand = c.new.result.answers.items in
    let first = view {S = g.row.S.Denot} words c.new.result.heap in
    let last = view {S = g.row.S.Denot} words c.give_each.result.heap in
    let answers = c.give_each.result.answers.items in
    let all : ServedAs (meaning c.args.scheme) memory calls answers last =
    subst (λ s. ServedAs (meaning s) memory calls answers last) new.scheme
    (c.give_each.ensures.as_one_list memory [] [] (subst (λ s. ServedAs (meaning s) memory [] at_hand first) (sym new.scheme) new.served)) in
    record { served = all; unnoticed = unnoticed (meaning c.args.scheme) memory calls answers last all; scheme = c.give_each.ensures.scheme ∙ new.scheme }
