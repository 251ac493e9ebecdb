use Rattle.std.proofs.Common.{◌≡◌, Bool, ◌&&◌, sym, ap, ◌∙◌, arith}
use Rattle.std.proofs.lemmas.Bool.{lt-ltb}
use Rattle.scheme.specs.Meaning.{is_raw}
use Rattle.scheme.proofs.Counts.{bits-none, bits-grow, bits-skip}
use Rattle.scheme.proofs.Scheme.raw_fields.Goals as goal
use Rattle.scheme.proofs.Scheme.raw_fields.Goals.{then-is_raw, else-is_raw}

pub loop-i-init : goal.loop-i-init
loop-i-init g c = bits-none (g.Self.Scheme.meaning c.args.self.now) c.args.rule

pub loop-i-preserved : goal.loop-i-preserved
loop-i-preserved g c =
    let m = g.Self.Scheme.meaning c.args.self.now in
    elim c.if-is_raw.branch [
      | then-is_raw w ↦ rw w.fields-is (bits-grow m c.args.rule c.loop-i.fields c.loop-i.i (sym c.is_raw.ensures ∙ w.if-is_raw.true) c.loop-i-test.true c.loop-i.invariant)
      | else-is_raw w ↦ rw w.fields-is (bits-skip m c.args.rule c.loop-i.fields c.loop-i.i (sym c.is_raw.ensures ∙ w.if-is_raw.false) c.loop-i-test.true c.loop-i.invariant)
    ]

pub returns : goal.returns
returns g c = λ i l. c.loop-i.invariant i l ∙ ap (λ (b : Bool). b && is_raw (g.Self.Scheme.meaning c.args.self.now) c.args.rule i) (lt-ltb i c.loop-i.i (omega arith))
