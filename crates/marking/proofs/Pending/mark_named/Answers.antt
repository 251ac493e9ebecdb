use Rattle.std.proofs.Common.{ℕ, ◌/◌, sym, ap, ◌∙◌, subst}
use Rattle.std.proofs.lemmas.Bool.{both_ways}
use Rattle.graph.specs.Places.{refers}
use Rattle.marking.specs.Marks.{MarkedAt}
use Rattle.marking.proofs.Pending.mark_named.Goals as goal

pub returns-then-refers-clause-named : goal.returns-then-refers-clause-named
returns-then-refers-clause-named g c =
    let word = c.read_within-word.ensures in
    record {
      none = λ l no. absurd (both_ways (refers c.read_within-word.result) (ap refers word ∙ no) (sym c.refers.ensures ∙ c.if-refers.true));
      some = λ l on.
          subst (λ (p : ℕ). MarkedAt (g.M.Memory.words c.args.space.now.memory) c.args.space.now.handles c.args.self.now p (g.M.Memory.words c.mark_at.new.space.memory) c.mark_at.new.space.handles c.mark_at.new.self)
          (c.place_of.ensures ∙ ap (λ (x : ℕ). x / 4) word) c.mark_at.ensures.marked;
    }
