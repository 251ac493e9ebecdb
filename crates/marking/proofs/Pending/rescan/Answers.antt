use Rattle.std.proofs.Common.{rules, sym, ◌∙◌}
use Rattle.std.proofs.lemmas.Bool.{eqb-true, eqb-false}
use Rattle.space.proofs.Wovens.{kept_then}
use Rattle.space.proofs.Cursors.{apart}
use Rattle.marking.proofs.Walks.{size-leads, walk_start, walk-scan, walk-skip, walk_end}
use Rattle.marking.proofs.Pending.rescan.Goals as goal
use Rattle.marking.proofs.Pending.rescan.Goals.{then-has_mark, else-has_mark}

pub walk-preserved : goal.walk-preserved
walk-preserved g c =
    let i = c.walk.invariant in
    let m = g.S.Scheme.meaning c.args.scheme.now in
    let up = g.T.Side.upward in
    let o = c.in-Some.object in
    let seen = c.in-Some.ensures in
    let ws = g.M.Memory.words c.walk.space.memory in
    let hs = c.walk.space.handles in
    let next = c.next-cursor.ensures seen.leads.goes.upward in
    let ne = apart up c.walk.cursor c.args.end (sym c.is_before.ensures ∙ c.walk-test.true) in
    elim c.if-has_mark.branch [
      | then-has_mark w ↦
          let scan = w.scan-then-has_mark.ensures in
          let drain = w.drain.ensures in
          rw (w.self-is, w.space-is) (
            kept_then i.0 (kept_then scan.kept drain.kept),
            search rules,
            λ P limit so C all chosen roots rounds e f s.
                walk-scan m P limit so up C all chosen roots rounds ws hs (e ∙ sym i.0.length) _ _ f _ (i.2 P limit so C all chosen roots rounds e f s) ne o seen _ next
                (eqb-true _ 1 (sym c.has_mark.ensures ∙ w.if-has_mark.true)) _ _ _ _ _ _ scan.kept scan.scanned drain.drained,
          )
      | else-has_mark w ↦
          rw (w.self-is, w.space-is) (
            i.0,
            search rules,
            λ P limit so C all chosen roots rounds e f s.
                walk-skip m P limit so up C all chosen roots rounds ws hs (e ∙ sym i.0.length) _ _ f _ (i.2 P limit so C all chosen roots rounds e f s) ne o seen _ next
                (eqb-false _ 1 (sym c.has_mark.ensures ∙ w.if-has_mark.false)),
          )
    ]

pub returns-after-walk-clause-rescanned : goal.returns-after-walk-clause-rescanned
returns-after-walk-clause-rescanned g c = λ P limit C chosen i roots rounds so e l a b all none go.
    walk_end _ P limit so _ C all chosen roots rounds c.walk.cursor c.args.end _ _ b (sym c.is_before.ensures ∙ c.walk-test.false)
    (c.walk.invariant.2 P limit so C all chosen roots rounds e b (walk_start _ P limit so _ C all chosen roots rounds c.args.from i _ _ l a none go))

-- under a plan no size leads nowhere
pub returns-in_default-clause-rescanned : goal.returns-in_default-clause-rescanned
returns-in_default-clause-rescanned g c = λ P limit C chosen i roots rounds so e l a b all none go.
    let m = g.S.Scheme.meaning c.args.scheme.now in
    let up = g.T.Side.upward in
    let k = c.walk.invariant.2 P limit so C all chosen roots rounds e b (walk_start m P limit so up C all chosen roots rounds c.args.from i _ _ l a none go) in
    let ne = apart up c.walk.cursor c.args.end (sym c.is_before.ensures ∙ c.walk-test.true) in
    absurd (c.in_default.ensures (size-leads m P limit so up C all k.to c.walk.cursor c.args.end b k.cursor ne _ _ k.going.is))
