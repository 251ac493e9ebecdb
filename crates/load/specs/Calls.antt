-- The call that a line gives.
use Rattle.std.specs.Prelude.{ℕ, zero, suc, cond, List, [], ◌∷◌, map, ℤ, None, Ok, Err, Option, Result, slice_index, slice_index_or}
use Rattle.std.specs.Option.{ok_or}
use Rattle.graph.specs.declared.Call.{Call}
use Rattle.graph.specs.declared.Call.TheVariants as calls
use Rattle.faults.specs.declared.Argument.{Argument}
use Rattle.faults.specs.declared.Argument.TheVariants.{A, B, C, D}
use Rattle.faults.specs.declared.TextFault.{TextFault}
use Rattle.faults.specs.declared.TextFault.TheVariants.{NoShape, NoWord, NoValue}
use Rattle.numbers.specs.Numbers.{plain, signed, unused}
use Rattle.lexer.specs.Pieces.{pieces, shaped}
use Rattle.lexer.specs.Tokens.{Lexeme, word, number, dash, lexeme, said}
use Rattle.words.specs.declared.Word.{Word}
use Rattle.words.specs.declared.Word.TheVariants as words
use Rattle.words.specs.Table.{word_of}
use Rattle.load.specs.declared.calls.Arguments.{Arguments}
use Rattle.load.specs.declared.names.Columns.{Columns}
use Rattle.load.specs.Steps.{and_then}

-- the arguments are read from a to d
abbrev pub arg : Lexeme → Argument → Result ℕ TextFault
arg v x = ok_or (plain v) (NoValue x)

abbrev pub whole : Lexeme → Argument → Result ℤ TextFault
whole v x = ok_or (signed v) (NoValue x)

abbrev pub spare : Lexeme → Argument → Result (Unit {0}) TextFault
spare v x = ok_or (unused v) (NoValue x)

-- the value under each name
abbrev pub value_under : (a b c d : Lexeme) → Argument → Lexeme
value_under a b c d A = a
value_under a b c d B = b
value_under a b c d C = c
value_under a b c d D = d

abbrev pub under_names : (a b c d : Lexeme) → List (Lexeme × Argument)
under_names a b c d = (a, A) ∷ (b, B) ∷ (c, C) ∷ (d, D) ∷ []

abbrev pub value_in : Arguments → Argument → Lexeme
value_in t = value_under (said t.a) (said t.b) (said t.c) (said t.d)

abbrev pub values_in : Arguments → List (Lexeme × Argument)
values_in t = under_names (said t.a) (said t.b) (said t.c) (said t.d)

abbrev pub spares : List (Lexeme × Argument) → Result (Unit {0}) TextFault
spares [] = Ok tt
spares (x ∷ xs) = and_then (spare x.0 x.1) (λ _. spares xs)

-- the numbers of the first n columns; the call does not use those behind
abbrev pub numbers : ℕ → List (Lexeme × Argument) → Result (List ℕ) TextFault
numbers zero xs = and_then (spares xs) (λ _. Ok [])
numbers (suc n) [] = Ok []
numbers (suc n) (x ∷ xs) = and_then (arg x.0 x.1) (λ i. and_then (numbers n xs) (λ is. Ok (i ∷ is)))

abbrev pub call : Word → (a b c d : Lexeme) → Result Call TextFault
call words.Num a b c d = and_then (arg a A) (λ i. and_then (whole b B) (λ n. and_then (spare c C) (λ _. and_then (spare d D) (λ _. Ok (calls.Num i n)))))
call words.Clear a b c d = and_then (numbers 1 (under_names a b c d)) (λ ns. Ok (calls.Clear (slice_index ns 0)))
call words.Copy a b c d = and_then (numbers 2 (under_names a b c d)) (λ ns. Ok (calls.Copy (slice_index ns 0) (slice_index ns 1)))
call words.Map a b c d = and_then (numbers 4 (under_names a b c d)) (λ ns. Ok (calls.Map (slice_index ns 0) (slice_index ns 1) (slice_index ns 2) (slice_index ns 3)))
call words.Layout a b c d = and_then (numbers 3 (under_names a b c d)) (λ ns. Ok (calls.Layout (slice_index ns 0) (slice_index ns 1) (slice_index ns 2)))
call words.Record a b c d = and_then (numbers 2 (under_names a b c d)) (λ ns. Ok (calls.Record (slice_index ns 0) (slice_index ns 1)))
call words.Load a b c d = and_then (numbers 3 (under_names a b c d)) (λ ns. Ok (calls.Load (slice_index ns 0) (slice_index ns 1) (slice_index ns 2)))
call words.Save a b c d = and_then (numbers 3 (under_names a b c d)) (λ ns. Ok (calls.Save (slice_index ns 0) (slice_index ns 1) (slice_index ns 2)))
call words.RawLoad a b c d = and_then (numbers 2 (under_names a b c d)) (λ ns. Ok (calls.RawLoad (slice_index ns 0) (slice_index ns 1)))
call words.RawSave a b c d = and_then (numbers 3 (under_names a b c d)) (λ ns. Ok (calls.RawSave (slice_index ns 0) (slice_index ns 1) (slice_index ns 2)))
call words.Kind a b c d = and_then (numbers 1 (under_names a b c d)) (λ ns. Ok (calls.Kind (slice_index ns 0)))
call words.Value a b c d = and_then (numbers 1 (under_names a b c d)) (λ ns. Ok (calls.Value (slice_index ns 0)))
call words.Same a b c d = and_then (numbers 2 (under_names a b c d)) (λ ns. Ok (calls.Same (slice_index ns 0) (slice_index ns 1)))
call words.Part a b c d = and_then (numbers 3 (under_names a b c d)) (λ ns. Ok (calls.Part (slice_index ns 0) (slice_index ns 1) (slice_index ns 2)))
call words.Figure a b c d = and_then (numbers 1 (under_names a b c d)) (λ ns. Ok (calls.Figure (slice_index ns 0)))
call words.Raws a b c d = and_then (numbers 1 (under_names a b c d)) (λ ns. Ok (calls.Raws (slice_index ns 0)))
call words.Collect a b c d = and_then (numbers 0 (under_names a b c d)) (λ _. Ok calls.Collect)
call words.Fill a b c d = and_then (numbers 0 (under_names a b c d)) (λ _. Ok calls.Fill)

-- the word of the table that a value is
abbrev pub word_said : Lexeme → Option Word
word_said (word bs) = word_of bs
word_said (number minus ds) = None
word_said dash = None

-- the five values of a line, where it has that shape
abbrev pub five : List ℕ → Result (List Lexeme) TextFault
five line = cond (shaped line) (Ok (map lexeme (pieces line))) (Err NoShape)

abbrev pub value_at : List Lexeme → ℕ → Lexeme
value_at vs p = slice_index_or vs p (word [])

-- what five values give under the columns
abbrev pub called_by : Columns → List Lexeme → Result Call TextFault
called_by p vs =
    and_then (ok_or (word_said (value_at vs p.call)) NoWord) (λ w. call w (value_at vs p.a) (value_at vs p.b) (value_at vs p.c) (value_at vs p.d))

-- what a line gives: its shape comes before its word, and that before its arguments from a to d
abbrev pub parsed : Columns → List ℕ → Result Call TextFault
parsed p line = and_then (five line) (called_by p)
