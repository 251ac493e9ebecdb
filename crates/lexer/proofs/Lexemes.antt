-- What a value is, from its bytes.
use Rattle.std.proofs.Common.{◌≡◌, ℕ, Bool, true, false, cond, eqb, List, [], ◌∷◌, length, Some, Option, sym, refl, ap, ◌∙◌, arith, Bor}
use Rattle.std.specs.Char.{is_ascii_digit}
use Rattle.std.proofs.lemmas.Bool.{eqb-true}
use Rattle.lexer.specs.Tokens.{word, number, behind_minus, lexeme, spelt, left_in}
use Rattle.lexer.proofs.Cuts.{pieces_some}

-- no byte of a value is lost
spelt-behind : (xs : List ℕ) → spelt (behind_minus xs) ≡ 45 ∷ xs
spelt-behind [] = refl
spelt-behind (x ∷ xs) = refl

spelt-first : (m d : Bool) (x : ℕ) (xs : List ℕ) → eqb x 45 ≡ m → spelt (cond m (behind_minus xs) (cond d (number false (x ∷ xs)) (word (x ∷ xs)))) ≡ x ∷ xs
spelt-first true d x xs e = spelt-behind xs ∙ ap (λ y. y ∷ xs) (sym (eqb-true x 45 e))
spelt-first false true x xs e = refl
spelt-first false false x xs e = refl

pub spelt-lexeme : (v : List ℕ) → spelt (lexeme v) ≡ v
spelt-lexeme [] = refl
spelt-lexeme (x ∷ xs) = spelt-first (eqb x 45) (is_ascii_digit x) x xs refl

pub some_left : (o : Option (Bor (List ℕ))) (rest : Bor (List ℕ)) → o ≡ Some rest → left_in o ≡ [] → ⊥
some_left o rest is e = omega (arith, ap length (sym (ap left_in is) ∙ e), pieces_some rest.now)
