-- Words at rest: the memory's words and the handles' words for a graph, of which some objects stand in the memory.
use Rattle.std.specs.Prelude.{ℕ, zero, suc, ◌+◌, ◌-◌, ◌*◌, ◌%◌, ◌^◌, Bool, false, cond, not, ◌&&◌, List, [], ◌∷◌, ◌++◌, map, length, replicate, ℤ, pos, negsuc, slice_index_or, slice_set}
use Rattle.graph.specs.Graph.{Value, empty, number, object, Cell, raw, value, Object, a_record, a_layout, a_map, Graph, object_at, size, is_record}
use Rattle.graph.specs.Reach.{total, words_of, reachable}

-- The words of the first n positions, one block after another.

-- from the left: the oldest first
abbrev pub upward : (ℕ → List ℕ) → ℕ → List ℕ
upward f zero = []
upward f (suc n) = upward f n ++ f n

-- to the right: the oldest last
abbrev pub downward : (ℕ → List ℕ) → ℕ → List ℕ
downward f zero = []
downward f (suc n) = f n ++ downward f n

-- Places. `standing` says of each object whether it stands in the memory.

module _ (g : Graph) (standing : List Bool) where
  abbrev pub record_stands : ℕ → Bool
  record_stands q = slice_index_or standing q false && is_record (object_at g q)

  abbrev pub class_stands : ℕ → Bool
  class_stands q = slice_index_or standing q false && not (is_record (object_at g q))

  abbrev pub record_size : ℕ → ℕ
  record_size q = cond (record_stands q) (size (object_at g q)) 0

  abbrev pub class_size : ℕ → ℕ
  class_size q = cond (class_stands q) (size (object_at g q)) 0

-- a record stands behind the older records, a class before the older classes
abbrev pub place_of : ℕ → Graph → List Bool → ℕ → ℕ
place_of W g standing q = cond (is_record (object_at g q)) (total (record_size g standing) q) (W - total (class_size g standing) (suc q))

-- the words of the gap between the records and the classes
abbrev pub between : ℕ → Graph → List Bool → ℕ
between W g standing = W - words_of g standing

-- where the records end, and where the classes begin
abbrev pub low_end : Graph → List Bool → ℕ
low_end g standing = total (record_size g standing) (length g.objects)

abbrev pub high_end : ℕ → Graph → List Bool → ℕ
high_end W g standing = W - total (class_size g standing) (length g.objects)

-- the word that refers to an object: four times the place of its header, and the tag, 2 for a record and 3 for a class
abbrev pub reference : ℕ → Graph → List Bool → ℕ → ℕ
reference W g standing q = place_of W g standing q * 4 + cond (is_record (object_at g q)) 2 3

-- Values and objects as words. `ref` has the reference to each position.

-- the word of a number: four times the number and the tag 1, in 32 bits; negsuc n is −(n+1)
abbrev pub number_word : ℤ → ℕ
number_word (pos n) = (n * 4 + 1) % 2 ^ 32
number_word (negsuc n) = (2 ^ 32 + 1 - (n + 1) * 4 % 2 ^ 32) % 2 ^ 32

abbrev pub header : Bool → ℕ → ℕ → ℕ
header mark kind words = 1 + 2 * cond mark 1 0 + 4 * kind + 16 * words

abbrev pub header_kind : Object → ℕ
header_kind (a_record l cells) = 0
header_kind (a_layout c m) = 1
header_kind (a_map r n p) = 2

module _ (ref : ℕ → ℕ) where
  abbrev pub value_word : Value → ℕ
  value_word empty = 0
  value_word (number n) = number_word n
  value_word (object q) = ref q

  abbrev pub field_word : Cell → ℕ
  field_word (raw w) = w
  field_word (value v) = value_word v

  -- what stands behind the header
  abbrev pub body_words : Object → List ℕ
  body_words (a_record l cells) = ref l ∷ map field_word cells
  body_words (a_layout c m) = c ∷ ref m ∷ 4 ∷ []
  body_words (a_map r n p) = r ∷ value_word n ∷ value_word p ∷ 5 ∷ []

  abbrev pub object_words : Bool → Object → List ℕ
  object_words mark o = header mark (header_kind o) (size o) ∷ body_words o

-- The whole memory: the standing records, zeros, the standing classes.

module _ (W : ℕ) (g : Graph) (standing marked : List Bool) where
  abbrev pub words_at : ℕ → List ℕ
  words_at q = object_words (reference W g standing) (slice_index_or marked q false) (object_at g q)

  abbrev pub record_words : ℕ → List ℕ
  record_words q = cond (record_stands g standing q) (words_at q) []

  abbrev pub class_words : ℕ → List ℕ
  class_words q = cond (class_stands g standing q) (words_at q) []

  abbrev pub image : List ℕ
  image = upward record_words (length g.objects) ++ (replicate (between W g standing) 0 ++ downward class_words (length g.objects))

abbrev pub handle_words : ℕ → Graph → List Bool → List ℕ
handle_words W g standing = map (value_word (reference W g standing)) g.handles

-- the words of the reachable objects alone
abbrev pub packed : ℕ → Graph → List ℕ
packed W g = image W g (reachable g) []

abbrev pub packed_handles : ℕ → Graph → List ℕ
packed_handles W g = handle_words W g (reachable g)

-- the list xs with the words ws written one after another from place p
abbrev pub put : List ℕ → ℕ → List ℕ → List ℕ
put xs p [] = xs
put xs p (w ∷ ws) = put (slice_set xs p w) (suc p) ws
