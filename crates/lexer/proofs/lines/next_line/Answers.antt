use Rattle.std.proofs.Common.{◌≡◌, ℕ, ◌<◌, List, [], ◌∷◌, ◌++◌, length, Some, None, Option, refl, ap, ◌∙◌, arith, length-append, false-eqb, MatchOption}
use Rattle.std.specs.Borrow.{Bor}
use Rattle.std.specs.Option.{unwrap_or}
use Rattle.lexer.specs.Pieces.{Lacks, lines}
use Rattle.lexer.proofs.Cuts.{lines_more, lines_last}
use Rattle.lexer.proofs.lines.next_line.Goals as goal

cut : (bs : List ℕ) (o : Option (Bor (List ℕ) × Bor (List ℕ))) (d : Bor (List ℕ) × Bor (List ℕ)) → 0 < length bs → d.0.now ≡ bs → d.1.now ≡ []
    → MatchOption o (Lacks 10 bs) (λ p. (bs ≡ p.0.now ++ 10 ∷ p.1.now) × Lacks 10 p.0.now)
    → (lines bs ≡ (unwrap_or o d).0.now ∷ lines (unwrap_or o d).1.now) × (length (unwrap_or o d).1.now < length bs)
cut bs None d some whole none free = rw (whole, none) (lines_last bs some free, some)
cut bs (Some p) d some whole none h = (ap lines h.0 ∙ lines_more _ _ h.1, omega (arith, simp length-append at (ap length h.0)))

pub returns : goal.returns
returns c = rw c.unwrap_or.ensures (cut _ _ _ (omega (arith, false-eqb _ 0 c.if-is_empty.ensures)) refl refl c.split_once.ensures)
