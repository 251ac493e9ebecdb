-- The name line.
use Rattle.std.specs.Prelude.{◌≡◌, ℕ, suc, Bool, false, cond, List, [], ◌∷◌, map, Some, None, Ok, Err, codes, Option, Result, slice_index_or}
use Rattle.std.specs.Option.{ok_or}
use Rattle.std.specs.Str.{bytes_eq}
use Rattle.lexer.specs.Pieces.{pieces, Shaped, shaped}
use Rattle.lexer.specs.Tokens.{Lexeme, word, number, dash, lexeme}
use Rattle.faults.specs.declared.TextFault.{TextFault}
use Rattle.faults.specs.declared.TextFault.TheVariants.{NoNames}
use Rattle.load.specs.declared.names.Columns.{Columns}
use Rattle.load.specs.Steps.{and_then}

-- the line is the five names, and each stands at its place
pub record Named (c : Columns) (line : List ℕ) : Type 0 where
  pub shaped : Shaped line
  pub at_call : slice_index_or (pieces line) c.call [] ≡ codes "call"
  pub at_a : slice_index_or (pieces line) c.a [] ≡ codes "a"
  pub at_b : slice_index_or (pieces line) c.b [] ≡ codes "b"
  pub at_c : slice_index_or (pieces line) c.c [] ≡ codes "c"
  pub at_d : slice_index_or (pieces line) c.d [] ≡ codes "d"

-- The same, computed.

abbrev pub is_word : List ℕ → Lexeme → Bool
is_word n (word v) = bytes_eq v n
is_word n (number minus ds) = false
is_word n dash = false

abbrev pub later : Option ℕ → Option ℕ
later None = None
later (Some k) = Some (suc k)

-- the first place of a name
abbrev pub place_in : List ℕ → List Lexeme → Option ℕ
place_in n [] = None
place_in n (v ∷ vs) = cond (is_word n v) (Some 0) (later (place_in n vs))

abbrev pub place : List Lexeme → List ℕ → Result ℕ TextFault
place vs n = ok_or (place_in n vs) NoNames

-- the places of the five names
abbrev pub places : List Lexeme → Result Columns TextFault
places vs =
    and_then (place vs (codes "call")) (λ k. and_then (place vs (codes "a")) (λ a. and_then (place vs (codes "b")) (λ b. and_then (place vs (codes "c")) (λ c. and_then (place vs (codes "d")) (λ d. Ok (record { call = k; a = a; b = b; c = c; d = d }))))))

-- the columns that a name line gives
abbrev pub columns_in : List ℕ → Result Columns TextFault
columns_in line = cond (shaped line) (places (map lexeme (pieces line))) (Err NoNames)
