use Rattle.std.proofs.Common.{◌≡◌, ℕ, ◌+◌, List, length, get_or, take, set, sym, ap, ◌∙◌, ap₂, arith, length-take}
use Rattle.std.proofs.lemmas.List.{take_more, take_all}
use Rattle.graph.specs.Words.{put}
use Rattle.heap.proofs.Objects.{put-push}
use Rattle.heap.proofs.Heap.put.Goals as goal

pub loop-i-preserved : goal.loop-i-preserved
loop-i-preserved g c =
    let inv = c.loop-i.invariant in
    let ws = c.args.words.now in
    let i = c.loop-i.i in
    let xs = g.M.Memory.words c.args.self.now.space.memory in
    let p = c.args.place in
    let long : length (take i ws) ≡ i = length-take i ws ∙ omega arith in (
      c.write.ensures
          ∙ ap₂ (λ (ys : List ℕ) (k : ℕ). set ys (p + k) (get_or ws i 0)) inv.0 (sym long)
          ∙ sym (put-push (take i ws) xs p (get_or ws i 0))
          ∙ ap (put xs p) (sym (take_more ws i 0 (omega arith))),
      inv.1,
      inv.2,
      inv.3,
    )

pub returns : goal.returns
returns g c =
    let inv = c.loop-i.invariant in
    record {
      memory = inv.0 ∙ ap (put (g.M.Memory.words c.args.self.now.space.memory) c.args.place) (take_all c.loop-i.i c.args.words.now (omega arith));
      handles = inv.1;
      bounds = inv.2;
      scheme = inv.3;
    }
