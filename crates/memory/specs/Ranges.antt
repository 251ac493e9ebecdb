-- What a memory's words are after a range of them is moved or cleared.
use Rattle.std.specs.Prelude.{ℕ, ◌+◌, ◌-◌, Bool, cond, ◌&&◌, List, length, slice_index, nat_le, nat_lt}

-- so many words from a place on lie within n words
abbrev pub lies : ℕ → ℕ → ℕ → Bool
lies place size n = nat_le (place + size) n

-- the word at k after so many words are moved from one place to another; where they do not all lie within the memory, none are
abbrev pub shifted : List ℕ → ℕ → ℕ → ℕ → ℕ → ℕ
shifted ws from to size k =
    cond
    ((lies from size (length ws) && lies to size (length ws)) && (nat_le to k && nat_lt k (to + size)))
    (slice_index ws (from + (k - to)))
    (slice_index ws k)

-- the word at k after those from one place up to another are cleared
abbrev pub cleared : List ℕ → ℕ → ℕ → ℕ → ℕ
cleared ws from end k = cond (nat_le from k && nat_lt k end) 0 (slice_index ws k)
