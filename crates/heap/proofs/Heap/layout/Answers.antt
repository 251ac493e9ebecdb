use Rattle.std.proofs.Common.{ℕ, ◌-◌, List, [], ◌∷◌, get_or, set, refl, ap, ◌∙◌, ap₂, arith}
use Rattle.std.proofs.lemmas.Bool.{eqb-true, not-false}
use Rattle.graph.specs.declared.Call.TheVariants.{Layout}
use Rattle.graph.specs.Graph.{held, a_layout}
use Rattle.graph.specs.Step.{position_of, kind_of}
use Rattle.graph.specs.Words.{put as putWords}
use Rattle.space.specs.declared.Bounds.{Bounds}
use Rattle.heap.specs.Views.{view, nothing}
use Rattle.heap.proofs.Judging.{passed, all_pass, pass-first, next, stop}
use Rattle.heap.proofs.Readings.{held-means}
use Rattle.heap.proofs.Objects.{ClassPut, room-exits, class-alters, layout-done}
use Rattle.heap.proofs.Exits.{exits, ends}
use Rattle.heap.proofs.Heap.layout.Goals as goal

pub returns-in_err-check_handle : goal.returns-in_err-check_handle
returns-in_err-check_handle g c =
    exits _ _ (Layout c.args.target c.args.fields c.args.map) _ nothing c.from_residual.result c.from_residual.ensures.1 λ gr s st.
    stop _ c.in_err-check_handle.ensures

pub returns-in_err-check_fields : goal.returns-in_err-check_fields
returns-in_err-check_fields g c =
    exits _ _ (Layout c.args.target c.args.fields c.args.map) _ nothing c.from_residual-in_err-check_fields.result c.from_residual-in_err-check_fields.ensures.1 λ gr s st.
    next c.in_ok-check_handle.ensures (stop _ c.in_err-check_fields.ensures)

pub returns-in_err-check_handle-2 : goal.returns-in_err-check_handle-2
returns-in_err-check_handle-2 g c =
    exits _ _ (Layout c.args.target c.args.fields c.args.map) _ nothing c.from_residual-in_err-check_handle-2.result c.from_residual-in_err-check_handle-2.ensures.1 λ gr s st.
    next c.in_ok-check_handle.ensures (next c.in_ok-check_fields.ensures (stop _ c.in_err-check_handle-2.ensures))

pub returns-in_err-check_kind : goal.returns-in_err-check_kind
returns-in_err-check_kind g c =
    exits _ _ (Layout c.args.target c.args.fields c.args.map) _ nothing c.from_residual-in_err-check_kind.result c.from_residual-in_err-check_kind.ensures.1 λ gr s st.
    next c.in_ok-check_handle.ensures (next c.in_ok-check_fields.ensures (next c.in_ok-check_handle-2.ensures (stop _ (c.in_err-check_kind.ensures gr s (held gr c.args.map) st (held-means _ _ gr s st c.args.map c.in_ok-check_handle-2.ensures.gives)))))

pub returns-in_err-make_room : goal.returns-in_err-make_room
returns-in_err-make_room g c =
    room-exits _ _ (Layout c.args.target c.args.fields c.args.map) _ _ nothing 4 c.args.target (λ gr. a_layout c.args.fields (position_of (held gr c.args.map)))
    c.from_residual-in_err-make_room.result c.from_residual-in_err-make_room.ensures.1 c.in_err-make_room.ensures.rooms c.in_err-make_room.ensures.scheme (λ ne. absurd (ne c.in_err-make_room.ensures.rooms.refusal))
    λ gr s st. (refl, refl, passed c.in_ok-check_handle.ensures (passed c.in_ok-check_fields.ensures (passed c.in_ok-check_handle-2.ensures (all_pass (c.in_ok-check_kind.ensures gr s (held gr c.args.map) st (held-means _ _ gr s st c.args.map c.in_ok-check_handle-2.ensures.gives))))))

pub returns : goal.returns
returns g c =
    let room = c.in_ok-make_room.ensures.rooms in
    let put = c.put_innermost-word.ensures in
    let h₁ = c.make_room.new.self in
    let v₁ = view {S = g.row.S.Denot} g.M.Memory.words h₁ in
    let placed : ClassPut v₁ _ c.args.target 4 (69 ∷ c.args.fields ∷ get_or v₁.handles c.args.map 0 ∷ 4 ∷ []) =
    record {
      memory = put.memory ∙ ap (λ (k : ℕ). putWords v₁.words (v₁.high - 4) (k ∷ c.args.fields ∷ get_or v₁.handles c.args.map 0 ∷ 4 ∷ [])) (c.header_of.ensures (omega arith));
      handles = λ l. ap₂ (λ (hs : List ℕ) (w : ℕ). set hs c.args.target w) put.handles (put.reference l);
      low = ap (λ (b : Bounds). b.low) put.bounds;
      high = ap (λ (b : Bounds). b.high) put.bounds;
      limit = ap (λ (b : Bounds). b.limit) put.bounds;
    } in
    ends _ _ (Layout c.args.target c.args.fields c.args.map) _ _ _ (placed.limit ∙ room.limit) (put.scheme ∙ c.in_ok-make_room.ensures.scheme)
    (λ l small. class-alters _ v₁ _ c.args.target 4 (λ u. 69 ∷ c.args.fields ∷ get_or u.handles c.args.map 0 ∷ 4 ∷ []) placed (room.roomy (omega arith)) (omega arith) l small) λ gr s st.
    layout-done _ _ gr s st _ _ room.limit (room.later gr s st) c.args.target c.args.fields c.args.map c.in_ok-check_handle-2.ensures.gives
    (eqb-true (kind_of gr (held gr c.args.map)) 4 (not-false _ (pass-first (all_pass (c.in_ok-check_kind.ensures gr s (held gr c.args.map) st (held-means _ _ gr s st c.args.map c.in_ok-check_handle-2.ensures.gives))))))
    (passed c.in_ok-check_handle.ensures (passed c.in_ok-check_fields.ensures (passed c.in_ok-check_handle-2.ensures (all_pass (c.in_ok-check_kind.ensures gr s (held gr c.args.map) st (held-means _ _ gr s st c.args.map c.in_ok-check_handle-2.ensures.gives))))))
    (room.room gr s st)
    placed
