-- What each call does to the still graph: where it is stopped, what it answers, and the graph after it.
use Rattle.std.specs.Prelude.{ℕ, zero, suc, ◌+◌, ◌*◌, ◌/◌, Bool, true, false, cond, not, ◌||◌, ltb, List, [], ◌∷◌, map, length, ℤ, pos, negsuc, Ok, Err, Result, ◌==◌, nat_le, nat_lt, slice_index_or, slice_set}
use Rattle.std.specs.List.{range_with_len}
use Rattle.graph.specs.declared.Call.{Call}
use Rattle.graph.specs.declared.Call.TheVariants.{Num, Clear, Copy, Map, Layout, Record, Load, Save, RawLoad, RawSave, Kind, Value as ValueOf, Same, Part, Figure, Raws, Collect, Fill, Stepped, GivenUp}
use Rattle.graph.specs.declared.Refusal.{Refusal}
use Rattle.graph.specs.declared.Refusal.TheVariants.{NoHandle, NoNumber, TooWide, NoPart, NoRule, OtherKind, NoField, OtherField, Full}
use Rattle.graph.specs.Graph.{Value, empty, number, object, Cell, raw, value, Object, a_record, a_layout, a_map, Graph, held, object_at, hold, make, change, size}
use Rattle.scheme.specs.Meaning.{Meaning, is_raw, raws}
use Rattle.graph.specs.Reach.{live_words}

-- What is read of a graph.

-- the object that a value names; where it names none, a map that names nothing
abbrev pub object_of : Graph → Value → Object
object_of g empty = a_map 0 empty empty
object_of g (number n) = a_map 0 empty empty
object_of g (object q) = object_at g q

abbrev pub position_of : Value → ℕ
position_of empty = 0
position_of (number n) = 0
position_of (object q) = q

abbrev pub object_kind : Object → ℕ
object_kind (a_record l cells) = 2
object_kind (a_layout c m) = 3
object_kind (a_map r n p) = 4

-- the kinds by number: 2, 3 and 4 for a record, a layout and a map, 1 for a number and 0 for nothing
abbrev pub kind_of : Graph → Value → ℕ
kind_of g empty = 0
kind_of g (number n) = 1
kind_of g (object q) = object_kind (object_at g q)

abbrev pub number_of : Value → ℤ
number_of empty = pos 0
number_of (number n) = n
number_of (object q) = pos 0

abbrev pub cells_of : Object → List Cell
cells_of (a_record l cells) = cells
cells_of (a_layout c m) = []
cells_of (a_map r n p) = []

abbrev pub raw_cell : Cell → Bool
raw_cell (raw w) = true
raw_cell (value v) = false

abbrev pub cell_word : Cell → ℕ
cell_word (raw w) = w
cell_word (value v) = 0

abbrev pub cell_value : Cell → Value
cell_value (raw w) = empty
cell_value (value v) = v

-- the figure of an object: for a map its rule, else how many fields it has or gives
abbrev pub figure_of : Object → ℕ
figure_of (a_record l cells) = length cells
figure_of (a_layout c m) = c
figure_of (a_map r n p) = r

-- of a layout's fields, the number of raw ones
abbrev pub layout_raws : Meaning → Graph → Object → ℕ
layout_raws m g (a_record l cells) = 0
layout_raws m g (a_layout c n) = raws m (figure_of (object_at g n)) c
layout_raws m g (a_map r n p) = 0

-- part k of an object: of a record its layout (k = 0), of a layout its map (1), of a map its name (2) or parent (3)
abbrev pub part_of : Object → ℕ → Value
part_of (a_record l cells) k = object l
part_of (a_layout c m) k = object m
part_of (a_map r n p) k = cond (k == 2) n p

abbrev pub same_number : ℤ → ℤ → Bool
same_number (pos m) (pos n) = m == n
same_number (pos m) (negsuc n) = false
same_number (negsuc m) (pos n) = false
same_number (negsuc m) (negsuc n) = m == n

-- whether two values are the same: the same number, the same object, or nothing twice
abbrev pub same_value : Value → Value → Bool
same_value empty empty = true
same_value empty (number n) = false
same_value empty (object q) = false
same_value (number m) empty = false
same_value (number m) (number n) = same_number m n
same_value (number m) (object q) = false
same_value (object p) empty = false
same_value (object p) (number n) = false
same_value (object p) (object q) = p == q

-- whether 30 bits with sign can hold a number: it is at least −536,870,912 and at most 536,870,911
abbrev pub in_range : ℤ → Bool
in_range (pos n) = nat_lt n 536_870_912
in_range (negsuc n) = nat_lt n 536_870_912

-- New objects.

-- field i of a new record: a raw field is 0, any other is empty
abbrev pub fresh_cell : Bool → Cell
fresh_cell true = raw 0
fresh_cell false = value empty

abbrev pub fresh_cells : Meaning → ℕ → ℕ → List Cell
fresh_cells m r n = map (λ i. fresh_cell (is_raw m r i)) (range_with_len 0 n)

-- the record that is made from the layout at position q: nothing in it yet
abbrev pub fresh_record : Meaning → Graph → ℕ → Object → Object
fresh_record m g q (a_record l cells) = a_record q []
fresh_record m g q (a_layout c n) = a_record q (fresh_cells m (figure_of (object_at g n)) c)
fresh_record m g q (a_map r n p) = a_record q []

-- the record with another cell as field i
abbrev pub with_cell : Object → ℕ → Cell → Object
with_cell (a_record l cells) i x = a_record l (slice_set cells i x)
with_cell (a_layout c m) i x = a_layout c m
with_cell (a_map r n p) i x = a_map r n p

-- The conditions that stop a call, each with its refusal; `at` is the argument's position.

pub data Check : Type 0 where
  ◌refuses◌ : Bool → Refusal → Check

infix 68 ◌refuses◌
abbrev pub handle : ℕ → ℕ → Check
handle h at = ltb 31 h refuses NoHandle at

abbrev pub value_number : ℤ → ℕ → Check
value_number n at = not (in_range n) refuses NoNumber at

abbrev pub field_count : ℕ → ℕ → Check
field_count c at = ltb 32 c refuses TooWide at

abbrev pub part_number : ℕ → ℕ → Check
part_number k at = ltb 3 k refuses NoPart at

abbrev pub admitted : Meaning → ℕ → ℕ → Check
admitted m r at = not (m.admits r) refuses NoRule at

module _ (g : Graph) where
  -- handle h holds the kind k, as `kind_of` numbers it
  abbrev pub holds : ℕ → ℕ → ℕ → Check
  holds k h at = not (kind_of g (held g h) == k) refuses OtherKind at

  abbrev pub holds_number : ℕ → ℕ → Check
  holds_number = holds 1

  abbrev pub holds_record : ℕ → ℕ → Check
  holds_record = holds 2

  abbrev pub holds_layout : ℕ → ℕ → Check
  holds_layout = holds 3

  abbrev pub holds_map : ℕ → ℕ → Check
  holds_map = holds 4

  -- handle h is empty or holds a map
  abbrev pub holds_parent : ℕ → ℕ → Check
  holds_parent h at = not (kind_of g (held g h) == 0 || kind_of g (held g h) == 4) refuses OtherKind at

  -- handle h holds an object of any kind
  abbrev pub holds_object : ℕ → ℕ → Check
  holds_object h at = ltb (kind_of g (held g h)) 2 refuses OtherKind at

  abbrev pub object_in : ℕ → Object
  object_in h = object_of g (held g h)

  -- field i of the record in handle o
  abbrev pub cell_in : ℕ → ℕ → Cell
  cell_in o i = slice_index_or (cells_of (object_in o)) i (raw 0)

  abbrev pub field : ℕ → ℕ → ℕ → Check
  field o i at = nat_le (length (cells_of (object_in o))) i refuses NoField at

  abbrev pub raw_field : ℕ → ℕ → ℕ → Check
  raw_field o i at = not (raw_cell (cell_in o i)) refuses OtherField at

  abbrev pub value_field : ℕ → ℕ → ℕ → Check
  value_field o i at = raw_cell (cell_in o i) refuses OtherField at

-- the kind of which k is a part
abbrev pub part_kind : ℕ → ℕ
part_kind zero = 2
part_kind (suc zero) = 3
part_kind (suc (suc k)) = 4

-- of W words the live ones in a hundred, rounded to the next whole number, with a half counted up; no words give 0
abbrev pub percent : ℕ → ℕ → ℕ
percent live zero = 0
percent live (suc w) = (200 * live + suc w) / (2 * suc w)

-- What a call does where nothing stops it.

pub data Act : Type 0 where
  -- a handle takes a value
  sets : ℕ → Value → Act
  -- a handle gets a new object
  makes : ℕ → Object → Act
  -- a field of the object at a position takes a cell
  writes : ℕ → ℕ → Cell → Act
  -- nothing changes, and a number is told
  tells : ℤ → Act
  -- the answer is the number of live words
  collects : Act

-- the table of the calls: the conditions in their order, but for that on room, and what the call does
abbrev pub row : Meaning → ℕ → Graph → Call → List Check × Act
row m W g (Num h n) = (handle h 1 ∷ value_number n 2 ∷ [], sets h (number n))
row m W g (Clear h) = (handle h 1 ∷ [], sets h empty)
row m W g (Copy d s) = (handle d 1 ∷ handle s 2 ∷ [], sets d (held g s))
row m W g (Map d r n p) =
    (handle d 1 ∷ admitted m r 2 ∷ handle n 3 ∷ handle p 4 ∷ holds_parent g p 4 ∷ [], makes d (a_map r (held g n) (held g p)))
row m W g (Layout d c n) = (handle d 1 ∷ field_count c 2 ∷ handle n 3 ∷ holds_map g n 3 ∷ [], makes d (a_layout c (position_of (held g n))))
row m W g (Record d l) = (handle d 1 ∷ handle l 2 ∷ holds_layout g l 2 ∷ [], makes d (fresh_record m g (position_of (held g l)) (object_in g l)))
row m W g (Load d o i) = (handle d 1 ∷ handle o 2 ∷ holds_record g o 2 ∷ field g o i 3 ∷ value_field g o i 3 ∷ [], sets d (cell_value (cell_in g o i)))
row m W g (Save o i v) =
    (handle o 1 ∷ handle v 3 ∷ holds_record g o 1 ∷ field g o i 2 ∷ value_field g o i 2 ∷ [], writes (position_of (held g o)) i (value (held g v)))
row m W g (RawLoad o i) = (handle o 1 ∷ holds_record g o 1 ∷ field g o i 2 ∷ raw_field g o i 2 ∷ [], tells (pos (cell_word (cell_in g o i))))
row m W g (RawSave o i w) = (handle o 1 ∷ holds_record g o 1 ∷ field g o i 2 ∷ raw_field g o i 2 ∷ [], writes (position_of (held g o)) i (raw w))
row m W g (Kind h) = (handle h 1 ∷ [], tells (pos (kind_of g (held g h))))
row m W g (ValueOf h) = (handle h 1 ∷ holds_number g h 1 ∷ [], tells (number_of (held g h)))
row m W g (Same a b) = (handle a 1 ∷ handle b 2 ∷ [], tells (pos (cond (same_value (held g a) (held g b)) 1 0)))
row m W g (Part d o k) = (handle d 1 ∷ handle o 2 ∷ part_number k 3 ∷ holds g (part_kind k) o 2 ∷ [], sets d (part_of (object_in g o) k))
row m W g (Figure h) = (handle h 1 ∷ holds_object g h 1 ∷ [], tells (pos (figure_of (object_in g h))))
row m W g (Raws h) = (handle h 1 ∷ holds_layout g h 1 ∷ [], tells (pos (layout_raws m g (object_in g h))))
row m W g Collect = ([], collects)
row m W g Fill = ([], tells (pos (percent (live_words g) W)))
row m W g Stepped = ([], collects)
row m W g GivenUp = ([], tells (pos 0))

abbrev pub answer : Graph → Act → ℤ
answer g (sets h v) = pos 0
answer g (makes d o) = pos 0
answer g (writes q i x) = pos 0
answer g (tells n) = n
answer g collects = pos (live_words g)

abbrev pub after : Graph → Act → Graph
after g (sets h v) = hold g h v
after g (makes d o) = make g d o
after g (writes q i x) = change g q (with_cell (object_at g q) i x)
after g (tells n) = g
after g collects = g

-- the last condition: W has no room for the new object beside the live words
abbrev pub full : ℕ → Graph → Act → Bool
full W g (sets h v) = false
full W g (makes d o) = nat_lt W (live_words g + size o)
full W g (writes q i x) = false
full W g (tells n) = false
full W g collects = false

-- a number, or a refusal
abbrev pub Outcome : Type 0
Outcome = Result ℤ Refusal

-- the refusal of the first condition that holds, or else the outcome given
abbrev pub judge : List Check → Outcome → Outcome
judge [] out = out
judge (test refuses r ∷ rest) out = cond test (Err r) (judge rest out)

abbrev pub outcome : Meaning → ℕ → Graph → Call → Outcome
outcome m W g c = let (tests, act) = row m W g c in judge tests (cond (full W g act) (Err Full) (Ok (answer g act)))

-- a refused call changes nothing
abbrev pub graph_after : Outcome → Graph → Act → Graph
graph_after (Ok n) g act = after g act
graph_after (Err r) g act = g

abbrev pub step : Meaning → ℕ → Call → Graph → Outcome × Graph
step m W c g = let out = outcome m W g c in (out, graph_after out g (row m W g c).1)

-- a list of calls, one after another
abbrev pub run : Meaning → ℕ → List Call → Graph → List Outcome × Graph
run m W [] g = ([], g)
run m W (c ∷ cs) g =
    let first = step m W c g in
    let rest = run m W cs first.1 in
    (first.0 ∷ rest.0, rest.1)
