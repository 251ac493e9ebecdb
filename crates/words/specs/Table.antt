-- The bytes of each call word.
use Rattle.std.specs.Prelude.{ℕ, cond, List, [], ◌∷◌, Some, None, codes, Option}
use Rattle.std.specs.Str.{bytes_eq}
use Rattle.words.specs.declared.Word.{Word}
use Rattle.words.specs.declared.Word.TheVariants.{Num, Clear, Copy, Map, Layout, Record, Load, Save, RawLoad, RawSave, Kind, Value, Same, Part, Figure, Raws, Collect, Fill}

abbrev pub name : Word → List ℕ
name Num = codes "num"
name Clear = codes "clear"
name Copy = codes "copy"
name Map = codes "map"
name Layout = codes "layout"
name Record = codes "record"
name Load = codes "load"
name Save = codes "save"
name RawLoad = codes "rawload"
name RawSave = codes "rawsave"
name Kind = codes "kind"
name Value = codes "value"
name Same = codes "same"
name Part = codes "part"
name Figure = codes "figure"
name Raws = codes "raws"
name Collect = codes "collect"
name Fill = codes "fill"

-- the table of the call words
abbrev pub table : List Word
table = Num ∷ Clear ∷ Copy ∷ Map ∷ Layout ∷ Record ∷ Load ∷ Save ∷ RawLoad ∷ RawSave ∷ Kind ∷ Value ∷ Same ∷ Part ∷ Figure ∷ Raws ∷ Collect ∷ Fill ∷ []

abbrev pub word_in : List Word → List ℕ → Option Word
word_in [] bs = None
word_in (w ∷ ws) bs = cond (bytes_eq bs (name w)) (Some w) (word_in ws bs)

-- the word of the table that the bytes spell
abbrev pub word_of : List ℕ → Option Word
word_of bs = word_in table bs
