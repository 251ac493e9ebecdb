-- A text cut at its marks.
use Rattle.std.proofs.Common.{◌≡◌, ℕ, suc, ◌<◌, true, false, cond, eqb, List, [], ◌∷◌, ◌++◌, length, refl, ap, ◌∙◌, arith}
use Rattle.std.proofs.lemmas.Bool.{cond-false, ne_eqb}
use Rattle.lexer.specs.Pieces.{Lacks, grown, lines, pieces}

head : (m x : ℕ) (xs : List ℕ) → Lacks m (x ∷ xs) → eqb x m ≡ false
head m x xs free = ne_eqb x m (free 0 (omega arith))

tail : (m x : ℕ) (xs : List ℕ) → Lacks m (x ∷ xs) → Lacks m xs
tail m x xs free = λ k h. free (suc k) (omega arith)

pub pieces_last : (v : List ℕ) → Lacks 32 v → pieces v ≡ v ∷ []
pieces_last [] free = refl
pieces_last (x ∷ xs) free = cond-false _ _ _ (head 32 x xs free) ∙ ap (grown x) (pieces_last xs (tail 32 x xs free))

pub pieces_more : (v rest : List ℕ) → Lacks 32 v → pieces (v ++ 32 ∷ rest) ≡ v ∷ pieces rest
pieces_more [] rest free = refl
pieces_more (x ∷ xs) rest free = cond-false _ _ _ (head 32 x xs free) ∙ ap (grown x) (pieces_more xs rest (tail 32 x xs free))

pub lines_last : (v : List ℕ) → 0 < length v → Lacks 10 v → lines v ≡ v ∷ []
lines_last [] some free = absurd (omega arith)
lines_last (x ∷ []) some free = cond-false _ _ _ (head 10 x [] free)
lines_last (x ∷ y ∷ ys) some free =
    cond-false _ _ _ (head 10 x (y ∷ ys) free) ∙ ap (grown x) (lines_last (y ∷ ys) (omega arith) (tail 10 x (y ∷ ys) free))

pub lines_more : (v rest : List ℕ) → Lacks 10 v → lines (v ++ 10 ∷ rest) ≡ v ∷ lines rest
lines_more [] rest free = refl
lines_more (x ∷ xs) rest free = cond-false _ _ _ (head 10 x xs free) ∙ ap (grown x) (lines_more xs rest (tail 10 x xs free))

grown-some : (x : ℕ) (ps : List (List ℕ)) → 0 < length (grown x ps)
grown-some x [] = omega arith
grown-some x (p ∷ ps) = omega arith

pub pieces_some : (bs : List ℕ) → 0 < length (pieces bs)
pieces_some [] = omega arith
pieces_some (x ∷ xs) =
    elim (eqb x 32) as (λ t. 0 < length (cond t ([] ∷ pieces xs) (grown x (pieces xs)))) [ true ↦ omega arith | false ↦ grown-some x (pieces xs) ]
