use Rattle.std.proofs.Common.{[], ◌∷◌, ◌++◌, is_ok, vec_items, ap, ◌∙◌}
use Rattle.std.proofs.ResultArms.{chosen}
use Rattle.report.proofs.Laws.{keeps-laws}
use Rattle.runner.specs.Runs.{heap_words}
use Rattle.runner.proofs.Turns.{ran-new, stops}
use Rattle.runner.proofs.run_load.Goals as goal
use Rattle.runner.proofs.run_load.Goals.{in-Ok+in_ok-ran-in-Ok, in-Err+in_ok-push-in-Err}

pub returns-clause-reports : goal.returns-clause-reports
returns-clause-reports g c =
    let empty = c.new-reports.ensures.items in
    elim c.match-open_load.branch [
      | in-Ok+in_ok-ran-in-Ok w ↦
          let opened = w.in-Ok.ensures in
          let new = w.new-heap.ensures in
          ap vec_items w.reports-is
          ∙ ran-new g.S.Scheme.meaning _ _ w.in-Ok.opened.columns c.args.input.now _ _ _ _ _ new.scheme new.limit empty opened.value opened.rest.0 new.stands w.in_ok-ran-in-Ok.ensures
      | in-Err+in_ok-push-in-Err w ↦
          let pushed = chosen _ _ _ _ w.push.ensures.items (ap is_ok w.in_ok-push-in-Err.was) in
          ap vec_items w.reports-is
          ∙ pushed
          ∙ ap (λ rs. rs ++ w.report_of.result ∷ []) empty
          ∙ ap (λ r. r ∷ []) w.report_of.ensures
          ∙ stops (g.S.Scheme.meaning c.args.scheme) (heap_words (g.M.Memory.words c.args.memory)) c.args.input.now _ w.in-Err.ensures.value
    ]

pub returns-clause-laws : goal.returns-clause-laws
returns-clause-laws g c = keeps-laws _ _ _ _ (returns-clause-reports g c)
