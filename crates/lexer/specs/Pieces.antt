-- Lines and values: a text cut at each mark.
use Rattle.std.specs.Prelude.{◌≡◌, ℕ, ◌<◌, ◌≤◌, Bool, true, cond, ◌&&◌, List, [], ◌∷◌, length, ◌==◌, ◌≢◌, nat_le, nat_lt, slice_index}

-- no byte is the mark
abbrev pub Lacks : ℕ → List ℕ → Type 0
Lacks m bs = (k : ℕ) → k < length bs → slice_index bs k ≢ m

-- x put before the first piece
abbrev pub grown : ℕ → List (List ℕ) → List (List ℕ)
grown x [] = (x ∷ []) ∷ []
grown x (p ∷ ps) = (x ∷ p) ∷ ps

-- a text is cut at each byte 10; one that ends with it has no line behind
abbrev pub lines : List ℕ → List (List ℕ)
lines [] = []
lines (x ∷ xs) = cond (x == 10) ([] ∷ lines xs) (grown x (lines xs))

-- byte 32 stands between two values
abbrev pub pieces : List ℕ → List (List ℕ)
pieces [] = [] ∷ []
pieces (x ∷ xs) = cond (x == 32) ([] ∷ pieces xs) (grown x (pieces xs))

-- none is empty
abbrev pub Full : List (List ℕ) → Type 0
Full [] = Unit {0}
Full (v ∷ vs) = (0 < length v) × Full vs

-- values left before and after one is asked for and none is given: there was none, or the first was empty and only it is taken off
abbrev pub PassedOver : (before after : List (List ℕ)) → Type 0
PassedOver [] after = after ≡ []
PassedOver (v ∷ vs) after = (v ≡ []) × (after ≡ vs)

-- a line of at most 80 bytes that is five values
abbrev pub Shaped : List ℕ → Type 0
Shaped line = (length line ≤ 80) × (length (pieces line) ≡ 5) × Full (pieces line)

-- the same, as a test
abbrev pub full : List (List ℕ) → Bool
full [] = true
full (v ∷ vs) = nat_lt 0 (length v) && full vs

abbrev pub shaped : List ℕ → Bool
shaped line = nat_le (length line) 80 && (length (pieces line) == 5 && full (pieces line))
