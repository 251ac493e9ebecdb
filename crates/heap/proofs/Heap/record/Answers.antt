use Rattle.std.proofs.Common.{◌≡◌, ℕ, suc, ◌+◌, ◌-◌, ◌*◌, List, ◌∷◌, length, get_or, set, replicate, sym, refl, ap, ◌∙◌, ap₂, arith, length-set}
use Rattle.std.proofs.lemmas.Bool.{eqb-true, not-false}
use Rattle.memory.specs.Ranges.{cleared}
use Rattle.graph.specs.declared.Call.TheVariants.{Record}
use Rattle.graph.specs.Graph.{held}
use Rattle.graph.specs.Step.{position_of, kind_of, object_of, fresh_record}
use Rattle.graph.specs.Words.{put as putWords}
use Rattle.space.specs.declared.Bounds.{Bounds}
use Rattle.heap.specs.Views.{view, nothing}
use Rattle.heap.proofs.Judging.{passed, all_pass, pass-first, next, stop}
use Rattle.heap.proofs.Readings.{held-means}
use Rattle.heap.proofs.Objects.{RecordPut, room-exits, fresh-alters, record-done, record-size, put-zeros}
use Rattle.heap.proofs.Exits.{exits, ends}
use Rattle.heap.proofs.Heap.record.Goals as goal

pub returns-in_err-check_handle : goal.returns-in_err-check_handle
returns-in_err-check_handle g c =
    exits _ _ (Record c.args.target c.args.layout) _ nothing c.from_residual.result c.from_residual.ensures.1 λ gr s st.
    stop _ c.in_err-check_handle.ensures

pub returns-in_err-check_handle-2 : goal.returns-in_err-check_handle-2
returns-in_err-check_handle-2 g c =
    exits _ _ (Record c.args.target c.args.layout) _ nothing c.from_residual-in_err-check_handle-2.result c.from_residual-in_err-check_handle-2.ensures.1 λ gr s st.
    next c.in_ok-check_handle.ensures (stop _ c.in_err-check_handle-2.ensures)

pub returns-in_err-size : goal.returns-in_err-size
returns-in_err-size g c =
    exits _ _ (Record c.args.target c.args.layout) _ nothing c.from_residual-in_err-size.result c.from_residual-in_err-size.ensures.1 λ gr s st.
    next c.in_ok-check_handle.ensures (next c.in_ok-check_handle-2.ensures (stop _ (c.in_err-size.ensures.size gr s (held gr c.args.layout) st (held-means _ _ gr s st c.args.layout c.in_ok-check_handle-2.ensures.gives))))

pub returns-in_err-make_room : goal.returns-in_err-make_room
returns-in_err-make_room g c =
    let m = g.S.Scheme.meaning c.args.self.now.scheme in
    room-exits _ _ (Record c.args.target c.args.layout) _ _ nothing c.in_ok-size.size c.args.target (λ gr. fresh_record m gr (position_of (held gr c.args.layout)) (object_of gr (held gr c.args.layout)))
    c.from_residual-in_err-make_room.result c.from_residual-in_err-make_room.ensures.1 c.in_err-make_room.ensures.rooms c.in_err-make_room.ensures.scheme (λ ne. absurd (ne c.in_err-make_room.ensures.rooms.refusal))
    λ gr s st. (refl, record-size m gr (held gr c.args.layout) (position_of (held gr c.args.layout)) (eqb-true (kind_of gr (held gr c.args.layout)) 3 (not-false _ (pass-first (all_pass (c.in_ok-size.ensures.size gr s (held gr c.args.layout) st (held-means _ _ gr s st c.args.layout c.in_ok-check_handle-2.ensures.gives)))))) ∙ sym (c.in_ok-size.ensures.size gr s (held gr c.args.layout) st (held-means _ _ gr s st c.args.layout c.in_ok-check_handle-2.ensures.gives)).gives, passed c.in_ok-check_handle.ensures (passed c.in_ok-check_handle-2.ensures (all_pass (c.in_ok-size.ensures.size gr s (held gr c.args.layout) st (held-means _ _ gr s st c.args.layout c.in_ok-check_handle-2.ensures.gives)))))

pub returns : goal.returns
returns g c =
    let l = c.args.layout in
    let n = c.in_ok-size.size in
    let room = c.in_ok-make_room.ensures.rooms in
    let counted = c.in_ok-size.ensures.counted in
    let v₁ = view {S = g.row.S.Denot} g.M.Memory.words c.make_room.new.self in
    let place : c.take-place.result ≡ v₁.low = c.take-place.ensures.place in
    let fields : c.take-place.result + 2 ≡ suc (suc v₁.low) = omega (arith, place) in
    let end : c.take-place.result + n ≡ c.take-place.result + 2 + (n - 2) = omega (arith, counted) in
    let one : c.take-place.result + 1 ≡ suc v₁.low = omega (arith, place) in
    let head = c.header_of.ensures (omega (arith, counted)) in
    let made = set (set v₁.words c.take-place.result c.header_of.result) (c.take-place.result + 1) (get_or v₁.handles l 0) in
    let long : length made ≡ length v₁.words = length-set _ _ _ ∙ length-set _ _ _ in
    let bounds = c.take-place.ensures.bounds in
    let placed : RecordPut v₁ _ c.args.target n ((1 + 16 * n) ∷ get_or v₁.handles l 0 ∷ replicate (n - 2) 0) =
    record {
      memory =
          put-zeros made _ (c.take-place.result + 2) (n - 2) (c.write_fresh.ensures.length ∙ sym long)
          (λ k. c.write_fresh.ensures.words k ∙ ap (λ (e : ℕ). cleared made (c.take-place.result + 2) e k) end)
          ∙ ap₂ (λ (ws : List ℕ) (p : ℕ). putWords ws p (replicate (n - 2) 0))
          (ap₂ (λ (ws : List ℕ) (p : ℕ). set ws p (get_or v₁.handles l 0)) (ap₂ (λ (p h : ℕ). set v₁.words p h) place head) one)
          fields;
      handles = λ k.
          ap (λ (w : ℕ). set v₁.handles c.args.target w) (c.reference.ensures (omega (arith, place, k)) ∙ ap (λ (p : ℕ). p * 4 + 2) place);
      low = λ k. let low = ap (λ (b : Bounds). b.low) bounds in omega (arith, low, counted);
      high = ap (λ (b : Bounds). b.high) bounds;
      limit = ap (λ (b : Bounds). b.limit) bounds;
    } in
    ends _ _ (Record c.args.target l) _ _ _ (placed.limit ∙ room.limit) c.in_ok-make_room.ensures.scheme
    (λ k high. fresh-alters _ v₁ _ c.args.target l n counted placed room.roomy k high) λ gr s st.
    let sifted = c.in_ok-size.ensures.size gr s (held gr l) st (held-means _ _ gr s st l c.in_ok-check_handle-2.ensures.gives) in
    record-done _ _ gr s st _ _ room.limit (room.later gr s st) c.args.target l n c.in_ok-check_handle-2.ensures.gives
    (eqb-true (kind_of gr (held gr l)) 3 (not-false _ (pass-first (all_pass sifted))))
    sifted.gives
    (passed c.in_ok-check_handle.ensures (passed c.in_ok-check_handle-2.ensures (all_pass sifted)))
    (room.room gr s st)
    placed
