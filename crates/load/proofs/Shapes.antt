-- Shapes and words as tests.
use Rattle.std.proofs.Common.{◌≡◌, ℕ, ◌≤◌, leb, List, [], ◌∷◌, map, length, Ok, Err, Decides, Result, sym, refl, ap, ◌∙◌, arith}
use Rattle.std.specs.Option.{ok_or}
use Rattle.std.proofs.lemmas.Bool.{cond-true, cond-false}
use Rattle.std.proofs.lemmas.Bool.Decides.{Decides-and, Decides-ltb, Decides-eqb, Decides-like, nat_tests}
use Rattle.faults.specs.declared.TextFault.{TextFault}
use Rattle.faults.specs.declared.TextFault.TheVariants.{NoShape, NoWord}
use Rattle.lexer.specs.Pieces.{pieces, Full, full, Shaped, shaped}
use Rattle.lexer.specs.Tokens.{Lexeme, lexeme}
use Rattle.words.specs.declared.Word.{Word}
use Rattle.load.specs.declared.names.Columns.{Columns}
use Rattle.load.specs.Steps.{and_then}
use Rattle.words.proofs.Tells.{not-from}
use Rattle.load.specs.Calls.{five, call, called_by, parsed, value_at, word_said}

pub decides-leb : (a b : ℕ) → Decides (leb a b) (a ≤ b)
decides-leb a b = grind (arith, nat_tests)

decides-full : (vs : List (List ℕ)) → Decides (full vs) (Full vs)
decides-full [] = (λ _. tt, λ _. refl)
decides-full (v ∷ vs) = Decides-and _ _ (Decides-ltb 0 (length v)) (decides-full vs)

pub decides-shaped : (line : List ℕ) → Decides (shaped line) (Shaped line)
decides-shaped line =
    Decides-like (shaped line) (λ p. (p.0, p.1.0, p.1.1)) (λ p. (p.0, (p.1, p.2))) (Decides-and _ _ (decides-leb (length line) 80) (Decides-and _ _ (Decides-eqb (length (pieces line)) 5) (decides-full (pieces line))))

pub five_ok : (line : List ℕ) → Shaped line → five line ≡ Ok (map lexeme (pieces line))
five_ok line h = cond-true _ _ _ ((decides-shaped line).1 h)

pub five_not : (line : List ℕ) → (Shaped line → ⊥) → five line ≡ Err NoShape
five_not line h = cond-false _ _ _ (not-from (shaped line) (decides-shaped line) h)

module _ (p : Columns) (line : List ℕ) where
  pub parsed-shape : (Shaped line → ⊥) → parsed p line ≡ Err NoShape
  parsed-shape h = ap (λ r. and_then r (called_by p)) (five_not line h)

  module _ (vs : List Lexeme) (ok : Shaped line × (vs ≡ map lexeme (pieces line))) where
    parsed-word : (l : Lexeme) (r : Result Word TextFault) → l ≡ value_at vs p.call → r ≡ ok_or (word_said l) NoWord → parsed p line ≡ and_then r (λ w. call w (value_at vs p.a) (value_at vs p.b) (value_at vs p.c) (value_at vs p.d))
    parsed-word l r at is =
        ap (λ f. and_then f (called_by p)) (five_ok line ok.0)
        ∙ ap (called_by p) (sym ok.1)
        ∙ ap (λ f. and_then f (λ w. call w (value_at vs p.a) (value_at vs p.b) (value_at vs p.c) (value_at vs p.d))) (ap (λ k. ok_or (word_said k) NoWord) (sym at) ∙ sym is)

    pub parsed-err : (l : Lexeme) (r : Result Word TextFault) (e : TextFault) → l ≡ value_at vs p.call → r ≡ ok_or (word_said l) NoWord → r ≡ Err e → parsed p line ≡ Err e
    parsed-err l r e at is was = parsed-word l r at is ∙ ap (λ x. and_then x (λ w. call w (value_at vs p.a) (value_at vs p.b) (value_at vs p.c) (value_at vs p.d))) was

    pub parsed-call : (l : Lexeme) (r : Result Word TextFault) (w : Word) → l ≡ value_at vs p.call → r ≡ ok_or (word_said l) NoWord → r ≡ Ok w → parsed p line ≡ call w (value_at vs p.a) (value_at vs p.b) (value_at vs p.c) (value_at vs p.d)
    parsed-call l r w at is was = parsed-word l r at is ∙ ap (λ x. and_then x (λ w. call w (value_at vs p.a) (value_at vs p.b) (value_at vs p.c) (value_at vs p.d))) was
