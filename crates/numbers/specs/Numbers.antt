-- The number that a value writes, where its column takes it.
use Rattle.std.specs.Prelude.{ℕ, ◌+◌, ◌-◌, ◌*◌, ◌^◌, Bool, true, false, cond, ◌&&◌, List, [], ◌∷◌, length, ℤ, pos, neg_ℤ, Some, None, Option, nat_le, nat_lt}
use Rattle.std.specs.Str.{all_ascii_digits}
use Rattle.lexer.specs.Tokens.{Lexeme, word, number, dash}

-- the number that the digits write after n
abbrev pub read_on : ℕ → List ℕ → ℕ
read_on n [] = n
read_on n (c ∷ cs) = read_on (n * 10 + (c - 48)) cs

-- one to ten digits
abbrev pub numeral : List ℕ → Bool
numeral v = (nat_le 1 (length v) && nat_le (length v) 10) && all_ascii_digits v

abbrev pub natural : List ℕ → Option ℕ
natural v = cond (numeral v) (Some (read_on 0 v)) None

-- a number from 0 to 2^32 - 1, without a minus
abbrev pub plain : Lexeme → Option ℕ
plain (word w) = None
plain (number true ds) = None
plain (number false ds) = cond (numeral ds && nat_lt (read_on 0 ds) (2 ^ 32)) (Some (read_on 0 ds)) None
plain dash = None

-- a number from -2^31 to 2^31 - 1: only it may carry a minus
abbrev pub signed : Lexeme → Option ℤ
signed (word w) = None
signed (number true ds) = cond (numeral ds && nat_le (read_on 0 ds) (2 ^ 31)) (Some (neg_ℤ (pos (read_on 0 ds)))) None
signed (number false ds) = cond (numeral ds && nat_lt (read_on 0 ds) (2 ^ 31)) (Some (pos (read_on 0 ds))) None
signed dash = None

-- an argument that the call does not use
abbrev pub unused : Lexeme → Option (Unit {0})
unused (word w) = None
unused (number minus ds) = None
unused dash = Some tt
