use Rattle.std.proofs.Common.{◌≡◌, ℕ, Bool, List, [], pos, sym, ap, ◌∙◌, subst, ap₂, arith}
use Rattle.graph.specs.declared.Call.TheVariants.{Fill}
use Rattle.space.specs.declared.Bounds.{Bounds}
use Rattle.graph.specs.Graph.{Graph}
use Rattle.graph.specs.Reach.{live_words}
use Rattle.graph.specs.Step.{tells, percent}
use Rattle.graph.specs.Nearest.{FillOf}
use Rattle.graph.proofs.Nearest.{fill-is-nearest}
use Rattle.heap.specs.Views.{view, Stands}
use Rattle.heap.proofs.Stepping.{tells-follow, live_small}
use Rattle.heap.proofs.Heap.fill.Goals as goal

pub returns : goal.returns
returns g c =
    let weigh = c.weigh-live.ensures in
    let W = c.args.self.now.bounds.limit in
    let limit : c.weigh-live.new.self.bounds.limit ≡ W = weigh.tells.limit in
    let is : (gr : Graph) (s : List Bool) → Stands (g.S.Scheme.meaning c.args.self.now.scheme) (view g.M.Memory.words c.args.self.now) gr s → c.percent.result ≡ percent (live_words gr) W =
    λ gr s st.
    let told = weigh.tells.told gr s st in
    let small = live_small _ _ gr s st in
    c.percent.ensures (omega (arith, told, small.0)) (omega (arith, limit, small.1)) ∙ ap₂ percent told limit in
    record {
      meets = record {
        follows = tells-follow _ Fill _ _ c.weigh-live.result (pos c.percent.result) (λ gr s st. ap (λ (n : ℕ). ([], tells (pos n))) (sym (is gr s st))) weigh.tells;
        alters = (ap (λ (b : Bounds). b.low) weigh.bounds, ap (λ (b : Bounds). b.high) weigh.bounds, weigh.tells.limit);
        scheme = weigh.scheme;
      };
      nearest = λ gr s st. subst (FillOf (live_words gr) W) (sym (is gr s st)) (fill-is-nearest (live_words gr) W).0;
    }
