use Rattle.std.proofs.Common.{◌≡◌, ◌+◌, take, vec_items, sym, ◌∙◌, subst, arith}
use Rattle.std.proofs.lemmas.List.{take_all}
use Rattle.heap.specs.Effects.{View}
use Rattle.heap.specs.Views.{view}
use Rattle.service.specs.Still.{ServedAs}
use Rattle.service.proofs.Laws.{one-more, shown-more, unnoticed}
use Rattle.service.proofs.serve_watched.Goals as goal

pub look-heap-requires : goal.look-heap-requires
look-heap-requires g c =
    let inv = c.loop-index.invariant in
    let now = c.give-answers.ensures in
    record { shown = search (shown-more g.S.Scheme.meaning, inv.scheme, now.scheme, c.as_slice.ensures.value, c.loop-index-test.true, inv.served, now.continues) }

pub loop-index-preserved : goal.loop-index-preserved
loop-index-preserved g c =
    let inv = c.loop-index.invariant in
    let words = g.M.Memory.words in
    let meaning = g.S.Scheme.meaning in
    let memory = words c.args.memory in
    let now = c.give-answers in
    let looked = c.look-heap in
    let v = view {S = g.row.S.Denot} words c.loop-index.served.heap in
    let w = view {S = g.row.S.Denot} words now.result.heap in
    let so_far = take (c.loop-index.index + 1) c.args.calls.now in
    let answers = vec_items now.result.answers in
    record {
      served = subst (λ (x : View). ServedAs (meaning c.args.scheme) memory so_far answers x) (sym looked.ensures.kept)
          (one-more meaning c.args.scheme c.loop-index.served.heap.scheme memory c.args.calls.now c.loop-index.index (vec_items c.loop-index.served.answers) v answers w inv.scheme c.loop-index-test.true inv.served now.ensures.continues);
      scheme = looked.ensures.scheme ∙ now.ensures.scheme ∙ inv.scheme;
      count = omega (arith, now.ensures.len, inv.count);
      room_is = omega (arith, now.ensures.capacity, inv.room_is);
    }

pub returns-clause-unnoticed : goal.returns-clause-unnoticed
returns-clause-unnoticed g c =
    let calls = c.args.calls.now in
    let meaning = g.S.Scheme.meaning c.args.scheme in
    let memory = g.M.Memory.words c.args.memory in
    let answers = vec_items c.loop-index.served.answers in
    let last = view {S = g.row.S.Denot} g.M.Memory.words c.loop-index.served.heap in
    let all : take c.loop-index.index calls ≡ calls = take_all c.loop-index.index calls (omega (arith, c.loop-index-test.false)) in
    unnoticed meaning memory calls answers last (subst (λ cs. ServedAs meaning memory cs answers last) all c.loop-index.invariant.served)
