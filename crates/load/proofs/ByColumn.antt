-- Numbers, read column by column.
use Rattle.std.proofs.Common.{◌≡◌, ℕ, zero, suc, ◌+◌, ◌-◌, ◌<◌, ◌≤◌, List, [], ◌∷◌, ◌++◌, length, get_or, take, drop, Ok, Err, Result, sym, refl, ap, ◌∙◌, arith, append_assoc}
use Rattle.std.proofs.Math.ListN.{set}
use Rattle.std.proofs.lemmas.List.{take_more_set, take_all}
use Rattle.faults.specs.declared.Argument.{Argument}
use Rattle.faults.specs.declared.Argument.TheVariants.{A, B, C, D}
use Rattle.faults.specs.declared.TextFault.{TextFault}
use Rattle.lexer.specs.Tokens.{Lexeme}
use Rattle.load.specs.Calls.{arg, spare, spares, value_under, under_names, numbers}
use Rattle.load.specs.Steps.{and_then}

abbrev pub all : List Argument
all = A ∷ B ∷ C ∷ D ∷ []

-- the numbers that are left, behind those that are read
abbrev behind : List ℕ → Result (List ℕ) TextFault → Result (List ℕ) TextFault
behind read r = and_then r (λ is. Ok (read ++ is))

-- the first i columns are read
abbrev pub Reads : ℕ → List (Lexeme × Argument) → ℕ → List ℕ → Type 0
Reads n xs i ns = numbers n xs ≡ behind (take i ns) (numbers (n - i) (drop i xs))

one-more : (k : ℕ) (read : List ℕ) (r : Result (List ℕ) TextFault) → behind read (and_then r (λ is. Ok (k ∷ is))) ≡ behind (read ++ k ∷ []) r
one-more k read (Ok is) = ap Ok (sym (append_assoc read (k ∷ []) is))
one-more k read (Err e) = refl

module _ (a b c d : Lexeme) where
  next : (i : ℕ) → i < 4 → drop i (under_names a b c d) ≡ (value_under a b c d (get_or all i A), get_or all i A) ∷ drop (i + 1) (under_names a b c d)
  next zero h = refl
  next (suc zero) h = refl
  next (suc (suc zero)) h = refl
  next (suc (suc (suc zero))) h = refl
  next (suc (suc (suc (suc i)))) h = absurd (omega (arith, h))

  module _ (n i : ℕ) (ns : List ℕ) (held : length ns ≡ n) (so : Reads n (under_names a b c d) i ns) (within : i < 4) (v : Lexeme) (is : v ≡ value_under a b c d (get_or all i A)) where
    abbrev left : List (Lexeme × Argument)
    left = drop (i + 1) (under_names a b c d)

    at : drop i (under_names a b c d) ≡ (v, get_or all i A) ∷ left
    at = next i within ∙ ap (λ l. (l, get_or all i A) ∷ left) (sym is)

    used : i < n → (r : Result ℕ TextFault) → r ≡ arg v (get_or all i A) → numbers n (under_names a b c d) ≡ behind (take i ns) (and_then r (λ k. and_then (numbers (n - (i + 1)) left) (λ is. Ok (k ∷ is))))
    used h r e =
        let m : n - i ≡ suc (n - (i + 1)) = omega arith in
        so ∙ ap (behind (take i ns)) (ap (numbers (n - i)) at ∙ ap (λ m. numbers m ((v, get_or all i A) ∷ left)) m ∙ ap (λ r. and_then r (λ k. and_then (numbers (n - (i + 1)) left) (λ is. Ok (k ∷ is)))) (sym e))

    pub used-ok : i < n → (k : ℕ) → Ok k ≡ arg v (get_or all i A) → Reads n (under_names a b c d) (i + 1) (set ns i k)
    used-ok h k e =
        used h (Ok k) e ∙ one-more k (take i ns) (numbers (n - (i + 1)) left) ∙ ap (λ l. behind l (numbers (n - (i + 1)) left)) (sym (take_more_set ns i k (omega arith)))

    pub used-err : i < n → (e : TextFault) → Err e ≡ arg v (get_or all i A) → Err e ≡ numbers n (under_names a b c d)
    used-err h e f = sym (used h (Err e) f)

    pub spare-ok : n ≤ i → Ok tt ≡ spare v (get_or all i A) → Reads n (under_names a b c d) (i + 1) ns
    spare-ok h e =
        let m : n - i ≡ 0 = omega arith in
        let z : 0 ≡ n - (i + 1) = omega arith in
        so
        ∙ ap (behind (take i ns)) (ap (numbers (n - i)) at ∙ ap (λ m. numbers m ((v, get_or all i A) ∷ left)) m ∙ ap (λ r. and_then (and_then r (λ _. spares left)) (λ _. Ok [])) (sym e) ∙ ap (λ m. numbers m left) z)
        ∙ ap (λ l. behind l (numbers (n - (i + 1)) left)) (take_all i ns (omega arith) ∙ sym (take_all (i + 1) ns (omega arith)))
