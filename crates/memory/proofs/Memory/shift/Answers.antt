use Rattle.std.proofs.Common.{◌≡◌, ◌+◌, ◌≤◌, ltb, length, get_or, sym, ap, ◌∙◌, arith}
use Rattle.std.proofs.lemmas.Bool.{cond-true, cond-false, lt-ltb, le-ltb}
use Rattle.std.proofs.lemmas.List.{length-set}
use Rattle.memory.proofs.Ranges.{order, way, shift-more}
use Rattle.memory.proofs.Memory.shift.Goals as goal
use Rattle.memory.proofs.Memory.shift.Goals.{then-to-from, else-to-from}

pub loop-i-preserved : goal.loop-i-preserved
loop-i-preserved g c =
    let i = c.loop-i.invariant in
    let len = c.length-len.ensures in
    let room : c.args.to + c.args.size ≤ length (g.Self.Memory.words c.loop-i.self) = omega (arith, i.kept) in
    let at : c.if-to-from.at ≡ order (ltb c.args.to c.args.from) c.args.size c.loop-i.i =
    elim c.if-to-from.branch [
      | then-to-from w ↦ w.at-is ∙ sym (cond-true _ _ _ (lt-ltb _ _ w.if-to-from.true))
      | else-to-from w ↦ w.at-is ∙ sym (cond-false _ _ _ (le-ltb _ _ w.if-to-from.false))
    ] in
    let more =
    shift-more _ _ _ c.args.from c.args.to c.args.size c.loop-i.i c.if-to-from.at _
    (way c.args.from c.args.to) room c.loop-i-test.true at c.read-word.ensures i.words in
    record { kept = ap length c.write.ensures ∙ length-set _ _ _ ∙ i.kept; words = λ k. ap (λ l. get_or l k 0) c.write.ensures ∙ more k }
