-- The standing objects as addresses: which object has an address, in which order the objects are visited, and which words are references.
use Rattle.std.specs.Prelude.{ℕ, zero, suc, ◌+◌, ◌-◌, ◌%◌, Bool, true, false, cond, not, ◌&&◌, ◌||◌, List, length, ◌==◌, nat_le, nat_lt, slice_index_or}
use Rattle.scheme.specs.Meaning.{Meaning, is_raw}
use Rattle.graph.specs.Graph.{Value, empty, number, object, Cell, raw, value, Object, a_record, a_layout, a_map, Graph, object_at, size, is_record}
use Rattle.graph.specs.Reach.{total}
use Rattle.graph.specs.Words.{place_of, record_stands, class_stands}

-- a word that refers to an object
abbrev pub refers : ℕ → Bool
refers w = nat_le 2 (w % 4)

-- whether word i of an object holds a value: words 2 and 3 of a map, word 2 of a layout, and of a record every word but the header and raw fields
abbrev pub value_at : Meaning → ℕ → ℕ → ℕ → Bool
value_at m kind rule i =
    cond (kind == 0) (i == 1 || (nat_le 2 i && not (is_raw m rule (i - 2)))) (cond (kind == 1) (i == 2) (i == 2 || i == 3))

abbrev pub is_object : Value → Bool
is_object empty = false
is_object (number n) = false
is_object (object q) = true

abbrev pub cell_refers : Cell → Bool
cell_refers (raw w) = false
cell_refers (value v) = is_object v

-- whether word i of the object is a reference
abbrev pub refers_at : Object → ℕ → Bool
refers_at (a_record l cells) zero = false
refers_at (a_record l cells) (suc zero) = true
refers_at (a_record l cells) (suc (suc i)) = cell_refers (slice_index_or cells i (raw 0))
refers_at (a_layout c n) i = i == 2
refers_at (a_map r n p) i = cond (i == 2) (is_object n) (i == 3 && is_object p)

module _ (W : ℕ) (g : Graph) (s : List Bool) where
  -- the standing object at position q has the address a
  abbrev pub holds : ℕ → ℕ → Bool
  holds q a = slice_index_or s q false && (nat_le (place_of W g s q) a && nat_lt a (place_of W g s q + size (object_at g q)))

  -- one more than the position of the object, of the first n, that has the address, 0 if none has
  abbrev pub owner : ℕ → ℕ → ℕ
  owner zero a = 0
  owner (suc n) a = cond (holds n a) (suc n) (owner n a)

  -- the number of standing records, and of standing classes, among the objects before position j
  abbrev pub records : ℕ → ℕ
  records = total (λ q. cond (record_stands g s q) 1 0)

  abbrev pub classes : ℕ → ℕ
  classes = total (λ q. cond (class_stands g s q) 1 0)

  -- the visiting number of the object at position q: all records, then all classes
  abbrev pub turn_of : ℕ → ℕ
  turn_of q = cond (is_record (object_at g q)) (records q + 1) (records (length g.objects) + classes q + 1)

  abbrev pub rank_of : ℕ → ℕ
  rank_of zero = 0
  rank_of (suc q) = turn_of q
