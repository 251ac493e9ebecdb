use Rattle.std.proofs.Common.{◌≡◌, ℕ, ◌/◌, List, get_or, ap, ◌∙◌, arith}
use Rattle.heap.proofs.Judging.{sifts-ok, sifts-err}
use Rattle.heap.proofs.Readings.{no_field, other-field, good-field}
use Rattle.heap.proofs.Heap.field_of.Goals as goal

-- the size in the header of the object that a word refers to
size : {M : Type 0} (words : M → List ℕ) (memory : M) (word p h n : ℕ) → p ≡ word / 4 → h ≡ get_or (words memory) p 0 → n ≡ h / 16 → n ≡ get_or (words memory) (word / 4) 0 / 16
size words memory word p h n at is big = big ∙ ap (λ (x : ℕ). x / 16) (is ∙ ap (λ (x : ℕ). get_or (words memory) x 0) at)

pub returns-then-field-size : goal.returns-then-field-size
returns-then-field-size g c =
    record {
      place = tt;
      sifts = λ gr s x st is k.
          sifts-err (no_field _ _ gr s st x c.args.word c.args.field c.args.at c.args.raw is k (omega (arith, size g.M.Memory.words c.args.self.now.space.memory c.args.word _ _ _ c.place_of-place.ensures c.read.ensures c.size_in-size.ensures)));
    }

pub returns-then-is_raw-raw : goal.returns-then-is_raw-raw
returns-then-is_raw-raw g c =
    record {
      place = tt;
      sifts = λ gr s x st is k.
          sifts-err
          (other-field _ _ gr s st x c.args.word c.args.field c.args.at c.args.raw c.is_raw.result is k (omega (arith, size g.M.Memory.words c.args.self.now.space.memory c.args.word _ _ _ c.place_of-place.ensures c.read.ensures c.size_in-size.ensures)) c.rule_of-rule.result
          (λ q here kind e. c.rule_of-rule.ensures gr s q st here kind (c.word_in.ensures ∙ e)) c.is_raw.ensures c.if-is_raw-raw.true);
    }

pub returns : goal.returns
returns g c =
    record {
      place = omega arith;
      sifts = λ gr s x st is k.
          sifts-ok
          (good-field _ _ gr s st x c.args.word c.args.field c.args.at c.args.raw c.is_raw.result is k (omega (arith, size g.M.Memory.words c.args.self.now.space.memory c.args.word _ _ _ c.place_of-place.ensures c.read.ensures c.size_in-size.ensures)) c.rule_of-rule.result
          (λ q here kind e. c.rule_of-rule.ensures gr s q st here kind (c.word_in.ensures ∙ e)) c.is_raw.ensures c.if-is_raw-raw.false)
          (omega arith);
    }
