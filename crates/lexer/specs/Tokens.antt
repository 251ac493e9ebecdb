-- What a value is: a word, a number with or without a minus, or a dash.
use Rattle.std.specs.Prelude.{ℕ, Bool, true, false, cond, List, [], ◌∷◌, map, Some, None, Option, ◌==◌}
use Rattle.std.specs.Borrow.{Bor}
use Rattle.std.specs.Char.{is_ascii_digit}
use Rattle.lexer.specs.declared.tokens.Token.{Token}
use Rattle.lexer.specs.declared.tokens.Token.TheVariants.{Word, Number, Dash}
use Rattle.lexer.specs.declared.tokens.Lexer.{Lexer}
use Rattle.lexer.specs.declared.tokens.Tokens.{Tokens}
use Rattle.lexer.specs.Pieces.{pieces}

pub data Lexeme : Type 0 where
  word : List ℕ → Lexeme
  -- the minus, and the bytes behind it
  number : Bool → List ℕ → Lexeme
  dash : Lexeme

-- A minus alone is a dash, and before anything else it begins a number; so does a digit. What is left is a word.
abbrev pub behind_minus : List ℕ → Lexeme
behind_minus [] = dash
behind_minus (x ∷ xs) = number true (x ∷ xs)

abbrev pub lexeme : List ℕ → Lexeme
lexeme [] = word []
lexeme (x ∷ xs) = cond (x == 45) (behind_minus xs) (cond (is_ascii_digit x) (number false (x ∷ xs)) (word (x ∷ xs)))

-- the bytes that a lexeme was read from
abbrev pub spelt : Lexeme → List ℕ
spelt (word w) = w
spelt (number true ds) = 45 ∷ ds
spelt (number false ds) = ds
spelt dash = 45 ∷ []

-- what a token says
abbrev pub said : Token → Lexeme
said (Word w) = word w.now
said (Number minus ds) = number minus ds.now
said Dash = dash

abbrev pub left_in : Option (Bor (List ℕ)) → List (List ℕ)
left_in None = []
left_in (Some rest) = pieces rest.now

-- the values that a lexer has still to read
abbrev pub left : Lexer → List (List ℕ)
left l = left_in l.rest

-- the five tokens of a line, in its order
abbrev pub held : Tokens → List Lexeme
held t = map said t.values
