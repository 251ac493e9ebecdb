use Rattle.std.proofs.Common.{◌≡◌, string_bytes, ap, ◌∙◌}
use Rattle.std.proofs.lemmas.Result.{IfOk-weaker}
use Rattle.scheme.specs.Meaning.{prefix}
use Rattle.report.specs.Laws.{Shows}
use Rattle.report.specs.Reports.{output}
use Rattle.runner.proofs.answer_load.Goals as goal

pub returns-clause-laws : goal.returns-clause-laws
returns-clause-laws c =
    IfOk-weaker c.output_of.result (λ s. string_bytes s ≡ output c.as_slice.result.now) (λ s. Shows prefix 64 c.args.input.now (string_bytes s))
    (λ s e. record { reports = c.in_ok-reports.reports.items; shown = e ∙ ap output c.as_slice.ensures.value; laws = c.in_ok-reports.ensures.laws })
    c.output_of.ensures
