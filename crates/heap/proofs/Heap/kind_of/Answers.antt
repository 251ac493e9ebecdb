use Rattle.std.proofs.Common.{◌≡◌, ◌/◌, ◌%◌, get_or, ap, ◌∙◌, arith}
use Rattle.space.proofs.KindBits.{bits-layout, bits-other}
use Rattle.heap.proofs.Readings.{layout_word, map_word}
use Rattle.heap.proofs.Heap.kind_of.Goals as goal

pub returns-then-eq : goal.returns-then-eq
returns-then-eq g c gr s x st is =
    let three : c.args.word % 4 ≡ 3 = grind arith in
    let kind = ap (λ h. h / 4 % 4) (c.read-class.ensures ∙ ap (λ p. get_or (g.M.Memory.words c.args.self.now.space.memory) p 0) c.place_of.ensures) in
    layout_word _ _ gr s st c.args.word (c.read-class.result / 4 % 4) x is three kind (bits-layout c.shape_in.result _ c.shape_in.ensures c.if-eq.ensures)

pub returns-else-eq : goal.returns-else-eq
returns-else-eq g c gr s x st is =
    let three : c.args.word % 4 ≡ 3 = grind arith in
    let kind = ap (λ h. h / 4 % 4) (c.read-class.ensures ∙ ap (λ p. get_or (g.M.Memory.words c.args.self.now.space.memory) p 0) c.place_of.ensures) in
    map_word _ _ gr s st c.args.word (c.read-class.result / 4 % 4) x is three kind (bits-other c.shape_in.result _ c.shape_in.ensures c.if-eq.ensures)
