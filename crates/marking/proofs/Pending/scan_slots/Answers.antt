use Rattle.std.proofs.Common.{◌≡◌, ℕ, ◌+◌, ◌/◌, ◌%◌, ◌<◌, ◌≤◌, false, get_or, sym, refl, ap, ◌∙◌, arith}
use Rattle.std.proofs.lemmas.Bool.{and_parts, ltb-true}
use Rattle.space.specs.Weave.{view}
use Rattle.space.specs.Slots.{values_of}
use Rattle.space.proofs.Stores.{view-low}
use Rattle.space.proofs.Wovens.{kept_refl, kept_then}
use Rattle.space.proofs.Sweeps.{in_object, header-no-value, sweep_start, sweep_from, sweep-to, sweep_on, sweep-end}
use Rattle.marking.proofs.Steps.{head-of, scan-start, scan-mark, scan-no-value, scan-no-ref, scan-end, full}
use Rattle.marking.proofs.Pending.scan_slots.Goals as goal

pub loop-i-init : goal.loop-i-init
loop-i-init g c =
    let p = c.args.place in
    let us = view (g.M.Memory.words c.args.space.now.memory) c.args.space.now.handles in
    let size = c.size_in-size.result in (
      λ k small v. let l = ltb-true k (size % 64) (and_parts _ _ (sym (c.below-left.ensures k small) ∙ v)).1 in omega arith,
      kept_refl _ _,
      λ P limit roots todo turns rounds so e on eh none go.
          let hp = head-of _ P limit so us p on in
          let is : size ≡ (so.object p hp).size = c.size_in-size.ensures ∙ ap (λ (w : ℕ). w / 16) (eh ∙ full _ P limit so us go.is p on) ∙ (so.object p hp).here.big in
          sweep_start c.below-left.result size (omega (arith, is, (so.object p hp).here.some)) none (scan-start _ P limit so roots todo turns rounds p hp _ _ go),
    )

pub loop-i-preserved : goal.loop-i-preserved
loop-i-preserved g c =
    let m = g.S.Scheme.meaning c.args.scheme.now in
    let p = c.args.place in
    let i = c.in-Some.i in
    let first = c.in-Some.ensures in
    let rest = c.pop_first.new.self in
    let inv = c.loop-i.invariant in
    let us = view (g.M.Memory.words c.args.space.now.memory) c.args.space.now.handles in
    let size = c.size_in-size.result in
    let reads = c.slots_of.ensures in
    let read = λ (a : ℕ). get_or (g.M.Memory.words c.args.space.now.memory) a 0 in
    let seen : (a : ℕ) → a < 16384 → read a ≡ us a = λ a l. sym (view-low _ c.args.space.now.handles a l) in
    let under : i < size = inv.0 i first.small first.holds in
    let low : p + i < 16384 = omega (arith, c.requires.limit, c.requires.place, c.if-place-size.false) in
    let word = c.read_within-word.ensures ∙ sym (view-low _ c.loop-i.space.handles (p + i) low) in (
      λ k small v. inv.0 k small (and_parts _ _ (sym (first.rest k small) ∙ v)).0,
      inv.1,
      λ P limit roots todo turns rounds so e on eh none go.
          let hp = head-of _ P limit so us p on in
          let w = inv.2 P limit roots todo turns rounds so e on eh none go in
          let is : size ≡ (so.object p hp).size = c.size_in-size.ensures ∙ ap (λ (w : ℕ). w / 16) (eh ∙ full _ P limit so us go.is p on) ∙ (so.object p hp).here.big in
          let all = in_object c.slots_of.result c.below-left.result size (omega (arith, is, (so.object p hp).here.most)) c.below-left.ensures in
          let here =
          sweep-to w rest i first
          (λ k some l no now. scan-no-value _ P limit so roots todo turns rounds p hp us go.is on (go.sound p on) c.args.header _ reads.rule eh refl read seen reads.ruled
          k some (omega (arith, c.size_in-size.ensures)) _ _ now (sym (reads.values k (omega (arith, first.small))) ∙ sym (all k (omega arith)) ∙ no)) in
          sweep_on w rest i first under
          (scan-no-ref _ P limit so roots todo turns rounds p hp us go.is on (go.sound p on) c.args.header _ reads.rule eh refl read seen reads.ruled
          i (omega (arith, w.some, sweep_from w rest i first)) (omega (arith, c.size_in-size.ensures)) _ _ here c.read_within-word.result word (sym c.refers.ensures ∙ c.if-refers.false)),
    )

pub loop-i-preserved-then-refers : goal.loop-i-preserved-then-refers
loop-i-preserved-then-refers g c =
    let m = g.S.Scheme.meaning c.args.scheme.now in
    let p = c.args.place in
    let i = c.in-Some.i in
    let first = c.in-Some.ensures in
    let rest = c.pop_first.new.self in
    let inv = c.loop-i.invariant in
    let us = view (g.M.Memory.words c.args.space.now.memory) c.args.space.now.handles in
    let size = c.size_in-size.result in
    let reads = c.slots_of.ensures in
    let read = λ (a : ℕ). get_or (g.M.Memory.words c.args.space.now.memory) a 0 in
    let seen : (a : ℕ) → a < 16384 → read a ≡ us a = λ a l. sym (view-low _ c.args.space.now.handles a l) in
    let under : i < size = inv.0 i first.small first.holds in
    let low : p + i < 16384 = omega (arith, c.requires.limit, c.requires.place, c.if-place-size.false) in
    let word = c.read_within-word.ensures ∙ sym (view-low _ c.loop-i.space.handles (p + i) low) in (
      λ k small v. inv.0 k small (and_parts _ _ (sym (first.rest k small) ∙ v)).0,
      kept_then inv.1 c.mark_at.ensures.kept,
      λ P limit roots todo turns rounds so e on eh none go.
          let hp = head-of _ P limit so us p on in
          let w = inv.2 P limit roots todo turns rounds so e on eh none go in
          let is : size ≡ (so.object p hp).size = c.size_in-size.ensures ∙ ap (λ (w : ℕ). w / 16) (eh ∙ full _ P limit so us go.is p on) ∙ (so.object p hp).here.big in
          let all = in_object c.slots_of.result c.below-left.result size (omega (arith, is, (so.object p hp).here.most)) c.below-left.ensures in
          let from = sweep_from w rest i first in
          let here =
          sweep-to w rest i first
          (λ k some l no now. scan-no-value _ P limit so roots todo turns rounds p hp us go.is on (go.sound p on) c.args.header _ reads.rule eh refl read seen reads.ruled
          k some (omega (arith, c.size_in-size.ensures)) _ _ now (sym (reads.values k (omega (arith, first.small))) ∙ sym (all k (omega arith)) ∙ no)) in
          sweep_on w rest i first under
          (scan-mark _ P limit so roots todo turns rounds p hp us go.is on (go.sound p on) c.args.header _ reads.rule eh refl read seen reads.ruled
          i (omega (arith, w.some, from)) (omega (arith, c.size_in-size.ensures)) _ _ here _ _ _ _ c.read_within-word.result _ refl (e ∙ sym inv.1.length)
          (sym (reads.values i first.small) ∙ sym (all i under) ∙ sym (w.after i from first.small) ∙ first.holds) word (sym c.refers.ensures ∙ c.if-refers.true) _ c.place_of.ensures c.mark_at.ensures.marked),
    )

pub returns-clause-scanned : goal.returns-clause-scanned
returns-clause-scanned g c = λ P limit roots todo turns rounds so e on eh go.
    let p = c.args.place in
    let us = view (g.M.Memory.words c.args.space.now.memory) c.args.space.now.handles in
    let size = c.size_in-size.result in
    let reads = c.slots_of.ensures in
    let read = λ (a : ℕ). get_or (g.M.Memory.words c.args.space.now.memory) a 0 in
    let seen : (a : ℕ) → a < 16384 → read a ≡ us a = λ a l. sym (view-low _ c.args.space.now.handles a l) in
    let hp = head-of _ P limit so us p on in
    let is : size ≡ (so.object p hp).size = c.size_in-size.ensures ∙ ap (λ (w : ℕ). w / 16) (eh ∙ full _ P limit so us go.is p on) ∙ (so.object p hp).here.big in
    let most : size ≤ 34 = omega (arith, is, (so.object p hp).here.most) in
    let all = in_object c.slots_of.result c.below-left.result size most c.below-left.ensures in
    let none : values_of c.below-left.result 0 ≡ false = all 0 (omega (arith, is, (so.object p hp).here.some)) ∙ reads.values 0 (omega arith) ∙ header-no-value (g.S.Scheme.meaning c.args.scheme.now) (c.args.header / 4 % 4) reads.rule in
    let w = c.loop-i.invariant.2 P limit roots todo turns rounds so e on eh none go in
    scan-end _ P limit so roots todo turns rounds p hp size _ _ (omega (arith, is))
    (sweep-end w c.in_default.ensures (omega arith)
    (λ k some l no now. scan-no-value _ P limit so roots todo turns rounds p hp us go.is on (go.sound p on) c.args.header _ reads.rule eh refl read seen reads.ruled
    k some (omega (arith, c.size_in-size.ensures)) _ _ now (sym (reads.values k (omega arith)) ∙ sym (all k l) ∙ no)))

pub returns-then-place-size-clause-scanned : goal.returns-then-place-size-clause-scanned
returns-then-place-size-clause-scanned g c = λ P limit roots todo turns rounds so e on eh go.
    let us = view (g.M.Memory.words c.args.space.now.memory) c.args.space.now.handles in
    let o = so.object c.args.place (head-of _ P limit so us c.args.place on) in
    let is : c.size_in-size.result ≡ o.size = c.size_in-size.ensures ∙ ap (λ (w : ℕ). w / 16) (eh ∙ full _ P limit so us go.is c.args.place on) ∙ o.here.big in
    absurd (omega (arith, is, e, o.ends, so.small, so.holds, c.requires.limit, c.requires.place, c.if-place-size.true))
