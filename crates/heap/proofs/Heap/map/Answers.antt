use Rattle.std.proofs.Common.{ℕ, ◌-◌, List, [], ◌∷◌, get_or, set, refl, ap, ◌∙◌, ap₂, arith}
use Rattle.graph.specs.declared.Call.TheVariants.{Map}
use Rattle.graph.specs.Graph.{held, a_map}
use Rattle.graph.specs.Words.{put as putWords}
use Rattle.space.specs.declared.Bounds.{Bounds}
use Rattle.heap.specs.Views.{view, nothing}
use Rattle.heap.proofs.Judging.{passed, all_pass, next, stop}
use Rattle.heap.proofs.Readings.{held-means}
use Rattle.heap.proofs.Objects.{ClassPut, room-exits, class-alters, map-done}
use Rattle.heap.proofs.Exits.{exits, ends}
use Rattle.heap.proofs.Heap.map.Goals as goal

pub returns-in_err-check_handle : goal.returns-in_err-check_handle
returns-in_err-check_handle g c =
    exits _ _ (Map c.args.target c.args.rule c.args.name c.args.parent) _ nothing c.from_residual.result c.from_residual.ensures.1 λ gr s st.
    stop _ c.in_err-check_handle.ensures

pub returns-in_err-check_rule : goal.returns-in_err-check_rule
returns-in_err-check_rule g c =
    exits _ _ (Map c.args.target c.args.rule c.args.name c.args.parent) _ nothing c.from_residual-in_err-check_rule.result c.from_residual-in_err-check_rule.ensures.1 λ gr s st.
    next c.in_ok-check_handle.ensures (stop _ c.in_err-check_rule.ensures)

pub returns-in_err-check_handle-2 : goal.returns-in_err-check_handle-2
returns-in_err-check_handle-2 g c =
    exits _ _ (Map c.args.target c.args.rule c.args.name c.args.parent) _ nothing c.from_residual-in_err-check_handle-2.result c.from_residual-in_err-check_handle-2.ensures.1 λ gr s st.
    next c.in_ok-check_handle.ensures (next c.in_ok-check_rule.ensures (stop _ c.in_err-check_handle-2.ensures))

pub returns-in_err-check_handle-3 : goal.returns-in_err-check_handle-3
returns-in_err-check_handle-3 g c =
    exits _ _ (Map c.args.target c.args.rule c.args.name c.args.parent) _ nothing c.from_residual-in_err-check_handle-3.result c.from_residual-in_err-check_handle-3.ensures.1 λ gr s st.
    next c.in_ok-check_handle.ensures (next c.in_ok-check_rule.ensures (next c.in_ok-check_handle-2.ensures (stop _ c.in_err-check_handle-3.ensures)))

pub returns-in_err-check_parent : goal.returns-in_err-check_parent
returns-in_err-check_parent g c =
    exits _ _ (Map c.args.target c.args.rule c.args.name c.args.parent) _ nothing c.from_residual-in_err-check_parent.result c.from_residual-in_err-check_parent.ensures.1 λ gr s st.
    next c.in_ok-check_handle.ensures (next c.in_ok-check_rule.ensures (next c.in_ok-check_handle-2.ensures (next c.in_ok-check_handle-3.ensures (stop _ (c.in_err-check_parent.ensures gr s (held gr c.args.parent) st (held-means _ _ gr s st c.args.parent c.in_ok-check_handle-3.ensures.gives))))))

pub returns-in_err-make_room : goal.returns-in_err-make_room
returns-in_err-make_room g c =
    room-exits _ _ (Map c.args.target c.args.rule c.args.name c.args.parent) _ _ nothing 5 c.args.target (λ gr. a_map c.args.rule (held gr c.args.name) (held gr c.args.parent))
    c.from_residual-in_err-make_room.result c.from_residual-in_err-make_room.ensures.1 c.in_err-make_room.ensures.rooms c.in_err-make_room.ensures.scheme (λ ne. absurd (ne c.in_err-make_room.ensures.rooms.refusal))
    λ gr s st. (refl, refl, passed c.in_ok-check_handle.ensures (passed c.in_ok-check_rule.ensures (passed c.in_ok-check_handle-2.ensures (passed c.in_ok-check_handle-3.ensures (all_pass (c.in_ok-check_parent.ensures gr s (held gr c.args.parent) st (held-means _ _ gr s st c.args.parent c.in_ok-check_handle-3.ensures.gives)))))))

pub returns : goal.returns
returns g c =
    let room = c.in_ok-make_room.ensures.rooms in
    let put = c.put_innermost-word.ensures in
    let h₁ = c.make_room.new.self in
    let v₁ = view {S = g.row.S.Denot} g.M.Memory.words h₁ in
    let placed : ClassPut v₁ _ c.args.target 5 (89 ∷ c.args.rule ∷ get_or v₁.handles c.args.name 0 ∷ get_or v₁.handles c.args.parent 0 ∷ 5 ∷ []) =
    record {
      memory = put.memory ∙ ap (λ (k : ℕ). putWords v₁.words (v₁.high - 5) (k ∷ c.args.rule ∷ get_or v₁.handles c.args.name 0 ∷ get_or v₁.handles c.args.parent 0 ∷ 5 ∷ [])) (c.header_of.ensures (omega arith));
      handles = λ l. ap₂ (λ (hs : List ℕ) (w : ℕ). set hs c.args.target w) put.handles (put.reference l);
      low = ap (λ (b : Bounds). b.low) put.bounds;
      high = ap (λ (b : Bounds). b.high) put.bounds;
      limit = ap (λ (b : Bounds). b.limit) put.bounds;
    } in
    ends _ _ (Map c.args.target c.args.rule c.args.name c.args.parent) _ _ _ (placed.limit ∙ room.limit) (put.scheme ∙ c.in_ok-make_room.ensures.scheme)
    (λ l small. class-alters _ v₁ _ c.args.target 5 (λ u. 89 ∷ c.args.rule ∷ get_or u.handles c.args.name 0 ∷ get_or u.handles c.args.parent 0 ∷ 5 ∷ []) placed (room.roomy (omega arith)) (omega arith) l small) λ gr s st.
    map-done _ _ gr s st _ _ room.limit (room.later gr s st) c.args.target c.args.rule c.args.name c.args.parent c.in_ok-check_handle-2.ensures.gives c.in_ok-check_handle-3.ensures.gives
    (passed c.in_ok-check_handle.ensures (passed c.in_ok-check_rule.ensures (passed c.in_ok-check_handle-2.ensures (passed c.in_ok-check_handle-3.ensures (all_pass (c.in_ok-check_parent.ensures gr s (held gr c.args.parent) st (held-means _ _ gr s st c.args.parent c.in_ok-check_handle-3.ensures.gives)))))))
    (room.room gr s st)
    placed
