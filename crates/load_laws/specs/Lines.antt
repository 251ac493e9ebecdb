-- What a line of a load gives, by its columns and not by the order of the reading.
use Rattle.std.specs.Prelude.{◌≡◌, ℕ, ◌^◌, ◌<◌, ◌≤◌, true, cond, ◌⊎◌, List, [], ◌∷◌, length, ℤ, pos, neg_ℤ, Ok, Err, codes, ◌==◌, ◌≢◌, slice_index_or}
use Rattle.std.specs.List.Sorted.{IsPermutation}
use Rattle.std.specs.Str.{all_ascii_digits}
use Rattle.graph.specs.declared.Call.{Call}
use Rattle.graph.specs.declared.Call.TheVariants as calls
use Rattle.faults.specs.Faults.{argument_position}
use Rattle.numbers.specs.Numbers.{read_on}
use Rattle.lexer.specs.Pieces.{pieces, Shaped}
use Rattle.faults.specs.declared.Argument.{Argument}
use Rattle.faults.specs.declared.Argument.TheVariants.{A, B, C, D}
use Rattle.faults.specs.declared.TextFault.TheVariants.{TooLong, NoNames, NoShape, NoWord, NoValue}
use Rattle.load.specs.Calls.{parsed}
use Rattle.load.specs.declared.names.Columns.{Columns}
use Rattle.words.specs.Table.{name}
use Rattle.words.specs.declared.Word.{Word}
use Rattle.words.specs.declared.Word.TheVariants as words

-- What a column is for in a call.
pub data Use : Type 0 where
  -- a number from 0 to 2^32 - 1, without a minus
  plain_number : Use
  -- a number from -2^31 to 2^31 - 1
  whole_number : Use
  -- the call does not use it
  nothing : Use

-- the columns that a call uses come before those that it does not
abbrev pub none_used : Argument → Use
none_used A = nothing
none_used B = nothing
none_used C = nothing
none_used D = nothing

abbrev pub one_used : Argument → Use
one_used A = plain_number
one_used B = nothing
one_used C = nothing
one_used D = nothing

abbrev pub two_used : Argument → Use
two_used A = plain_number
two_used B = plain_number
two_used C = nothing
two_used D = nothing

abbrev pub three_used : Argument → Use
three_used A = plain_number
three_used B = plain_number
three_used C = plain_number
three_used D = nothing

abbrev pub four_used : Argument → Use
four_used A = plain_number
four_used B = plain_number
four_used C = plain_number
four_used D = plain_number

-- `num` alone takes a number below 0, as its second argument
abbrev pub num_used : Argument → Use
num_used A = plain_number
num_used B = whole_number
num_used C = nothing
num_used D = nothing

abbrev pub use_of : Word → Argument → Use
use_of words.Num = num_used
use_of words.Clear = one_used
use_of words.Copy = two_used
use_of words.Map = four_used
use_of words.Layout = three_used
use_of words.Record = two_used
use_of words.Load = three_used
use_of words.Save = three_used
use_of words.RawLoad = two_used
use_of words.RawSave = three_used
use_of words.Kind = one_used
use_of words.Value = one_used
use_of words.Same = two_used
use_of words.Part = three_used
use_of words.Figure = one_used
use_of words.Raws = one_used
use_of words.Collect = none_used
use_of words.Fill = none_used

-- one to ten digits
abbrev pub Numeral : List ℕ → Type 0
Numeral v = (1 ≤ length v) × (length v ≤ 10) × (all_ascii_digits v ≡ true)

-- a value does for a column
abbrev pub Takes : Use → List ℕ → Type 0
Takes plain_number v = Numeral v × (read_on 0 v < 2 ^ 32)
Takes whole_number v = (Numeral v × (read_on 0 v < 2 ^ 31)) ⊎ ((ds : List ℕ) × (v ≡ 45 ∷ ds) × Numeral ds × (read_on 0 ds ≤ 2 ^ 31))
Takes nothing v = v ≡ codes "-"

-- the number that a value writes, with or without a minus
abbrev pub read_whole : List ℕ → ℤ
read_whole [] = pos 0
read_whole (x ∷ xs) = cond (x == 45) (neg_ℤ (pos (read_on 0 xs))) (pos (read_on 0 (x ∷ xs)))

-- the call that a word and the values under a to d mean
abbrev pub meant : Word → (Argument → List ℕ) → Call
meant words.Num v = calls.Num (read_on 0 (v A)) (read_whole (v B))
meant words.Clear v = calls.Clear (read_on 0 (v A))
meant words.Copy v = calls.Copy (read_on 0 (v A)) (read_on 0 (v B))
meant words.Map v = calls.Map (read_on 0 (v A)) (read_on 0 (v B)) (read_on 0 (v C)) (read_on 0 (v D))
meant words.Layout v = calls.Layout (read_on 0 (v A)) (read_on 0 (v B)) (read_on 0 (v C))
meant words.Record v = calls.Record (read_on 0 (v A)) (read_on 0 (v B))
meant words.Load v = calls.Load (read_on 0 (v A)) (read_on 0 (v B)) (read_on 0 (v C))
meant words.Save v = calls.Save (read_on 0 (v A)) (read_on 0 (v B)) (read_on 0 (v C))
meant words.RawLoad v = calls.RawLoad (read_on 0 (v A)) (read_on 0 (v B))
meant words.RawSave v = calls.RawSave (read_on 0 (v A)) (read_on 0 (v B)) (read_on 0 (v C))
meant words.Kind v = calls.Kind (read_on 0 (v A))
meant words.Value v = calls.Value (read_on 0 (v A))
meant words.Same v = calls.Same (read_on 0 (v A)) (read_on 0 (v B))
meant words.Part v = calls.Part (read_on 0 (v A)) (read_on 0 (v B)) (read_on 0 (v C))
meant words.Figure v = calls.Figure (read_on 0 (v A))
meant words.Raws v = calls.Raws (read_on 0 (v A))
meant words.Collect v = calls.Collect
meant words.Fill v = calls.Fill

-- the place of a column, and the value under it
abbrev pub column : Columns → Argument → ℕ
column p A = p.a
column p B = p.b
column p C = p.c
column p D = p.d

abbrev pub under : Columns → List ℕ → Argument → List ℕ
under p line x = slice_index_or (pieces line) (column p x) []

abbrev pub under_call : Columns → List ℕ → List ℕ
under_call p line = slice_index_or (pieces line) p.call []

-- the line has the shape, and its call word is w
abbrev pub Calls : Columns → List ℕ → Word → Type 0
Calls p line w = Shaped line × (under_call p line ≡ name w)

-- a line gives a call exactly when it is shaped, its word is in the table and every column takes its value; and the call is the one that they mean
pub record CallExactly (p : Columns) (line : List ℕ) (k : Call) : Type 0 where
  pub needs : parsed p line ≡ Ok k → (w : Word) × Calls p line w × ((x : Argument) → Takes (use_of w x) (under p line x)) × (k ≡ meant w (under p line))
  pub suffices : (w : Word) → Calls p line w → ((x : Argument) → Takes (use_of w x) (under p line x)) → parsed p line ≡ Ok (meant w (under p line))

abbrev pub GivesCallExactly : Type 0
GivesCallExactly = (p : Columns) (line : List ℕ) (k : Call) → CallExactly p line k

-- 42 exactly where the shape is wrong; 43 exactly where it is right and the word is not in the table; a line never gives 40 or 41
pub record InOrder (p : Columns) (line : List ℕ) : Type 0 where
  pub shape : parsed p line ≡ Err NoShape → Shaped line → ⊥
  pub no_shape : (Shaped line → ⊥) → parsed p line ≡ Err NoShape
  pub call_word : parsed p line ≡ Err NoWord → Shaped line × ((w : Word) → under_call p line ≢ name w)
  pub no_word : Shaped line → ((w : Word) → under_call p line ≢ name w) → parsed p line ≡ Err NoWord
  pub not_long : parsed p line ≡ Err TooLong → ⊥
  pub not_names : parsed p line ≡ Err NoNames → ⊥

abbrev pub FaultsInOrder : Type 0
FaultsInOrder = (p : Columns) (line : List ℕ) → InOrder p line

-- the columns before x, from a, take their values, and x does not
pub record FirstNot (p : Columns) (line : List ℕ) (w : Word) (x : Argument) : Type 0 where
  pub refuses : Takes (use_of w x) (under p line x) → ⊥
  pub before : (y : Argument) → argument_position y < argument_position x → Takes (use_of w y) (under p line y)

-- 44 names the first column that does not take its value
pub record ColumnNamed (p : Columns) (line : List ℕ) (x : Argument) : Type 0 where
  pub names : parsed p line ≡ Err (NoValue x) → (w : Word) × Calls p line w × FirstNot p line w x
  pub named : (w : Word) → Calls p line w → FirstNot p line w x → parsed p line ≡ Err (NoValue x)

abbrev pub FirstColumnNamed : Type 0
FirstColumnNamed = (p : Columns) (line : List ℕ) (x : Argument) → ColumnNamed p line x

-- the same values in another order, each under its name
pub record Reordered (p : Columns) (line : List ℕ) (q : Columns) (other : List ℕ) : Type 0 where
  pub values : IsPermutation (pieces line) (pieces other)
  pub calls_alike : under_call p line ≡ under_call q other
  pub alike : (x : Argument) → under p line x ≡ under q other x

-- a line and the same line under another order of names give the same call, or the same fault
abbrev pub AnyOrderOfNames : Type 0
AnyOrderOfNames = (p q : Columns) (line other : List ℕ) → Reordered p line q other → parsed p line ≡ parsed q other
