use Rattle.std.proofs.Common.{List, replicate, min, refl, sym, ap, ap₂, ◌∙◌}
use Rattle.memory.proofs.Wordwise.{length-words}
use Rattle.graph.specs.Step.{Outcome}
use Rattle.graph.specs.Runs.{others, to_others}
use Rattle.dispatch.proofs.twice.serve_twice.Goals as goal

pub returns-clause-told : goal.returns-clause-told
returns-clause-told c =
    c.in_ok-told_to_others.ensures ∙ ap (to_others c.args.calls.now) (c.as_slice-2.ensures.value ∙ c.in_ok-plain.ensures.served.answered)

pub returns-clause-same : goal.returns-clause-same
returns-clause-same c =
    let same = sym c.in_ok-packed.ensures.same ∙ ap others (sym c.as_slice.ensures.value) in
    let alike = c.in_ok-plain.ensures.alike refl (ap (λ n. min n 16384) (sym (length-words (replicate 195 9)))) same in
    c.in_ok-told_to_others.ensures
    ∙ ap (to_others c.args.calls.now) c.as_slice-2.ensures.value
    ∙ alike.told
    ∙ ap₂ {C = List Outcome} to_others (c.as_slice.ensures.value ∙ sym c.as_slice-3.ensures.value) (sym c.as_slice-4.ensures.value)
    ∙ sym c.in_ok-told_to_others-2.ensures
