use Rattle.std.proofs.Common.{rules, sym, refl, ◌∙◌}
use Rattle.std.proofs.lemmas.Bool.{eqb-true, eqb-false}
use Rattle.space.proofs.Stores.{stored-word}
use Rattle.space.proofs.Wovens.{kept_then}
use Rattle.space.proofs.Cursors.{apart}
use Rattle.marking.proofs.Walks.{size-leads}
use Rattle.marking.proofs.Fades.{seen-low, clear-start, clear-off, clear-skip, clear-end}
use Rattle.marking.proofs.unmark.unmark_side.Goals as goal
use Rattle.marking.proofs.unmark.unmark_side.Goals.{then-has_mark, else-has_mark}

pub walk-preserved : goal.walk-preserved
walk-preserved g c =
    let i = c.walk.invariant in
    let up = g.T.Side.upward in
    let o = c.in-Some.object in
    let seen = c.in-Some.ensures in
    let ws = g.M.Memory.words c.walk.space.memory in
    let hs = c.walk.space.handles in
    let next = c.next-cursor.ensures seen.leads.goes.upward in
    let on = sym c.is_before.ensures ∙ c.walk-test.true in
    let ne = apart up c.walk.cursor c.args.end on in
    elim c.if-has_mark.branch [
      | then-has_mark w ↦
          let low = seen-low up _ c.walk.cursor c.args.end o.size o.place i.1 on seen.leads seen.place in
          let st = stored-word ws hs o.place w.unmarked.result (g.M.Memory.words w.write_within.new.self) hs low w.write_within.ensures refl in
          rw w.space-is (
            kept_then i.0 st.kept,
            search rules,
            λ m P limit so C all e f s.
                clear-off m P limit so up C all ws hs (e ∙ sym i.0.length) _ _ f (i.2 m P limit so C all e f s) ne o seen _ next _ _ _
                (eqb-true _ 1 (sym c.has_mark.ensures ∙ w.if-has_mark.true)) w.unmarked.ensures st,
          )
      | else-has_mark w ↦
          rw w.space-is (
            i.0,
            search rules,
            λ m P limit so C all e f s.
                clear-skip m P limit so up C all ws hs (e ∙ sym i.0.length) _ _ f (i.2 m P limit so C all e f s) ne o seen _ next
                (eqb-false _ 1 (sym c.has_mark.ensures ∙ w.if-has_mark.false)),
          )
    ]

pub returns-after-walk-clause-unmarked : goal.returns-after-walk-clause-unmarked
returns-after-walk-clause-unmarked g c = λ m P limit C so e a b all f.
    clear-end m P limit so _ C all c.walk.cursor c.args.end _ b (sym c.is_before.ensures ∙ c.walk-test.false) (c.walk.invariant.2 m P limit so C all e b (clear-start m P limit so _ C all c.args.from _ a f))

-- under a plan no size leads nowhere
pub returns-in_default-clause-unmarked : goal.returns-in_default-clause-unmarked
returns-in_default-clause-unmarked g c = λ m P limit C so e a b all f.
    let up = g.T.Side.upward in
    let k = c.walk.invariant.2 m P limit so C all e b (clear-start m P limit so up C all c.args.from _ a f) in
    let ne = apart up c.walk.cursor c.args.end (sym c.is_before.ensures ∙ c.walk-test.true) in
    absurd (c.in_default.ensures (size-leads m P limit so up C all k.to c.walk.cursor c.args.end b k.cursor ne _ _ k.fading.is))
