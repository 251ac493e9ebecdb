use Rattle.std.proofs.Common.{◌≡◌, ℕ, is_ok, vec_items, ap, ◌∙◌, length, subst, refl, ⊎_elim, arith}
use Rattle.std.proofs.ResultArms.{chosen}
use Rattle.scheme.specs.Meaning.{Meaning}
use Rattle.graph.specs.Advance.{advance}
use Rattle.lexer.specs.Pieces.{lines}
use Rattle.load.specs.Calls.{parsed}
use Rattle.report.specs.Loads.{answered}
use Rattle.report.specs.Reports.{reported}
use Rattle.heap.specs.Views.{view}
use Rattle.runner.specs.Runs.{AnswersLine}
use Rattle.runner.proofs.Turns.{line_at, turn, ended, lines_within}
use Rattle.runner.proofs.run_lines.Goals as goal

pub loop-number-init : goal.loop-number-init
loop-number-init g c =
    let text : c.into_iter-number-iterator.result.b.rest.now ≡ c.args.text.now = cc in
    let number : c.into_iter-number-iterator.result.a.start ≡ 2 = cc in
    rw (text, number) (λ st stands. (st, stands, refl), refl, refl, omega (arith, c.requires, lines_within c.args.text.now))

pub loop-number-preserved : goal.loop-number-preserved
loop-number-preserved g c =
    let inv = c.loop-number.invariant in
    let meaning = g.S.Scheme.meaning in
    let m : Meaning = meaning c.args.heap.now.scheme in
    let W : ℕ = c.args.heap.now.bounds.limit in
    let columns = c.args.columns.now in
    let n = c.in-Some.number in
    let line = c.in-Some.line.now in
    let v = view {S = g.row.S.Denot} g.M.Memory.words c.loop-number.heap in
    let w = view {S = g.row.S.Denot} g.M.Memory.words c.run_line-result.new.heap in
    let result = c.run_line-result.result in
    let ran = subst (λ s. AnswersLine (meaning s) columns n line v w result) inv.2 c.run_line-result.ensures.answers in
    let step = c.in-Some.ensures.steps in
    let pushed = chosen _ _ _ _ c.push.ensures.items (ap is_ok c.in_ok-push.was) in (
      (λ st stands.
          let now = inv.0 st stands in
          let given = line_at m columns n line v w result W inv.1 ran now.0 now.1 in (
            (answered (advance m W) now.0 (parsed columns line)).1,
            given.1,
            turn m W columns n _ _ _ (vec_items c.loop-number.reports) _ now.0 line _ _ c.report_of.result step.0.0 step.0.1 step.1 now.2 pushed (c.report_of.ensures ∙ ap (reported n) given.0),
          )),
      ran.limit ∙ inv.1,
      c.run_line-result.ensures.scheme ∙ inv.2,
      omega (arith, step.0.0, step.0.1, ap length step.1, inv.3),
    )

pub returns : goal.returns
returns g c =
    let inv = c.loop-number.invariant in
    let m : Meaning = g.S.Scheme.meaning c.args.heap.now.scheme in
    let W : ℕ = c.args.heap.now.bounds.limit in
    let left = c.loop-number.number-iterator in
    λ st stands.
    let now = inv.0 st stands in
    ⊎_elim (λ top. absurd (omega (arith, top.1.0, inv.3))) (λ none. ended m W c.args.columns.now left.a.start _ (vec_items c.loop-number.reports) now.0 (lines left.b.rest.now) none.1.0 now.2) c.in-None.ensures.steps
