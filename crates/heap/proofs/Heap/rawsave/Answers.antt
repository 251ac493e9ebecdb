use Rattle.std.proofs.Common.{◌≡◌, ℕ, ◌+◌, ◌/◌, true, List, get_or, set, refl, ap, ◌∙◌, arith}
use Rattle.graph.specs.declared.Call.TheVariants.{RawSave}
use Rattle.graph.specs.Graph.{held, raw}
use Rattle.graph.specs.Step.{position_of}
use Rattle.heap.specs.Effects.{parts}
use Rattle.heap.specs.Views.{nothing}
use Rattle.heap.proofs.Judging.{passed, all_pass, next, stop}
use Rattle.heap.proofs.Acts.{written-done}
use Rattle.heap.proofs.Readings.{held-means, found}
use Rattle.heap.proofs.Exits.{exits, ends}
use Rattle.heap.proofs.Heap.rawsave.Goals as goal

pub returns-in_err-check_handle : goal.returns-in_err-check_handle
returns-in_err-check_handle g c =
    exits _ _ (RawSave c.args.owner c.args.field c.args.raw) _ nothing c.from_residual.result c.from_residual.ensures.1 λ gr s st.
    stop _ c.in_err-check_handle.ensures

pub returns-in_err-place : goal.returns-in_err-place
returns-in_err-place g c =
    exits _ _ (RawSave c.args.owner c.args.field c.args.raw) _ nothing c.from_residual-in_err-place.result c.from_residual-in_err-place.ensures.1 λ gr s st.
    next c.in_ok-check_handle.ensures (stop _ (c.in_err-place.ensures.sifts gr s (held gr c.args.owner) st (held-means _ _ gr s st c.args.owner c.in_ok-check_handle.ensures.gives)))

pub returns : goal.returns
returns g c =
    let o = c.args.owner in
    let i = c.args.field in
    let now = c.args.self.now in
    let words = g.M.Memory.words now.space.memory in
    let written : g.M.Memory.words c.write.new.self ≡ set words (get_or now.space.handles o 0 / 4 + (2 + i)) c.args.raw =
    c.write.ensures ∙ ap (λ (p : ℕ). set words p c.args.raw) c.in_ok-place.ensures.place in
    ends _ _ (RawSave o i c.args.raw) _ _ _ refl refl (ap (λ (ws : List ℕ). parts ws now.space.handles now.bounds.low now.bounds.high now.bounds.limit) written) λ gr s st.
    let is = held-means _ _ gr s st o c.in_ok-check_handle.ensures.gives in
    let q = c.in_ok-place.ensures.sifts gr s (held gr o) st is in
    let f = found _ _ gr s st (held gr o) _ i 1 2 true is (all_pass q) in
    written-done _ _ gr s st (position_of (held gr o)) i c.args.raw (raw c.args.raw) f.owner.stands f.owner.rec (omega (arith, f.owner.sized, f.inside)) (refl) c.in_ok-place.place
    (q.gives ∙ ap (λ (k : ℕ). k + (2 + i)) f.owner.place) (RawSave o i c.args.raw) _ c.write.ensures refl
    (passed c.in_ok-check_handle.ensures (all_pass q))
