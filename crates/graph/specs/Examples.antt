-- Worked examples, computed from the definitions.
use Rattle.std.specs.Prelude.{◌≡◌, ℕ, ◌^◌, true, false, List, [], ◌∷◌, ◌++◌, map, replicate, ℤ, pos, negsuc, Ok, Err, slice_index}
use Rattle.std.specs.List.{range_with_len}
use Rattle.graph.specs.declared.Call.{Call}
use Rattle.graph.specs.declared.Call.TheVariants.{Num, Clear, Map, Layout, Record, Load, Save, Value as ValueOf, Collect, Fill}
use Rattle.scheme.specs.Meaning.{Meaning, prefix, mask, is_raw}
use Rattle.graph.specs.Step.{Outcome}
use Rattle.graph.specs.Numbers.{refusal_number, refusal_position}
use Rattle.graph.specs.Words.{number_word}
use Rattle.graph.specs.Advance.{State, start, advances, memory_words, handles_words}

-- an outcome as it is printed: state, number, position
pub data Line : Type 0 where
  ok : ℤ → ℕ → Line
  no : ℕ → ℕ → Line

abbrev pub shown : Outcome → Line
shown (Ok n) = ok n 0
shown (Err r) = no (refusal_number r) (refusal_position r)

-- what each call of a list tells, from an empty heap of W words on
abbrev pub told : Meaning → ℕ → List Call → List Line
told m W calls = map shown (advances m W calls start).0

-- the calls over a new heap
abbrev pub heap_after : Meaning → ℕ → List Call → State
heap_after m W calls = (advances m W calls start).1

abbrev pub three_objects : List Call
three_objects = Map 0 1 31 31 ∷ Layout 1 3 0 ∷ Record 2 1 ∷ []

abbrev pub load : List Call
load =
    three_objects
    ++ (Num 3 (negsuc 6) ∷ Save 2 1 3 ∷ Save 2 0 3 ∷ Load 4 2 1 ∷ ValueOf 4 ∷ Clear 2 ∷ Collect ∷ Fill ∷ [])

abbrev pub granted : Line
granted = ok (pos 0) 0

abbrev pub words : List ℕ → List ℕ → List ℕ
words memory places = map (λ p. slice_index memory p) places

-- a map, a layout of c fields and a record, each in 16 words
abbrev pub sixteen : ℕ → List Call
sixteen c = Map 0 1 31 31 ∷ Layout 1 c 0 ∷ Record 2 1 ∷ Fill ∷ []

pub record Worked : Type 0 where
  pub the_load :
      told prefix 64 load
      ≡ granted ∷ granted ∷ granted ∷ granted ∷ granted ∷ no 23 2 ∷ granted ∷ ok (negsuc 6) 0 ∷ granted ∷ ok (pos 9) 0 ∷ ok (pos 14) 0 ∷ []
  pub the_words :
      words (memory_words 64 (heap_after prefix 64 three_objects)) (0 ∷ 1 ∷ 55 ∷ 57 ∷ 58 ∷ 59 ∷ 63 ∷ [])
      ≡ 81 ∷ 223 ∷ 69 ∷ 239 ∷ 4 ∷ 89 ∷ 5 ∷ []
  pub all_words :
      memory_words 64 (heap_after prefix 64 three_objects)
      ≡ 81 ∷ 223 ∷ 0 ∷ 0 ∷ 0 ∷ replicate 50 0 ++ (69 ∷ 3 ∷ 239 ∷ 4 ∷ 89 ∷ 1 ∷ 0 ∷ 0 ∷ 5 ∷ [])
  pub minus_seven : number_word (negsuc 6) ≡ 4_294_967_269
  pub greatest : number_word (pos 536_870_911) ≡ 2_147_483_645
  pub least : number_word (negsuc 536_870_911) ≡ 2_147_483_649
  pub too_great : told prefix 64 (Num 0 (pos 536_870_912) ∷ []) ≡ no 12 2 ∷ []
  pub slides :
      words (handles_words 64 (heap_after prefix 64 (three_objects ++ (Record 3 1 ∷ Clear 2 ∷ [])))) (3 ∷ []) ≡ 22 ∷ []
  pub slid :
      words (handles_words 64 (heap_after prefix 64 (three_objects ++ (Record 3 1 ∷ Clear 2 ∷ Collect ∷ [])))) (3 ∷ []) ≡ 2 ∷ []
  pub sixteen_full : told prefix 16 (sixteen 5) ≡ granted ∷ granted ∷ granted ∷ ok (pos 100) 0 ∷ []
  pub sixteen_over : told prefix 16 (sixteen 6) ≡ granted ∷ granted ∷ no 31 0 ∷ ok (pos 56) 0 ∷ []
  pub sixteen_again :
      told prefix 16 (sixteen 5 ++ (Record 2 1 ∷ Clear 2 ∷ Record 2 1 ∷ []))
      ≡ granted ∷ granted ∷ granted ∷ ok (pos 100) 0 ∷ no 31 0 ∷ granted ∷ granted ∷ []
  pub prefix_rules : told prefix 64 (Map 0 32 31 31 ∷ Map 0 33 31 31 ∷ []) ≡ granted ∷ no 15 2 ∷ []
  pub mask_high : map (is_raw mask (2 ^ 31)) (range_with_len 0 32) ≡ replicate 31 false ++ (true ∷ [])
  pub no_words : told prefix 0 (Map 0 1 31 31 ∷ Collect ∷ Fill ∷ []) ≡ no 31 0 ∷ ok (pos 0) 0 ∷ ok (pos 0) 0 ∷ []
  pub half_upward : told prefix 200 (Map 0 1 31 31 ∷ Fill ∷ []) ≡ granted ∷ ok (pos 3) 0 ∷ []
  -- the record in its own field is no less garbage
  pub in_its_own_field : told prefix 64 (three_objects ++ (Save 2 1 2 ∷ Clear 2 ∷ Collect ∷ [])) ≡ granted ∷ granted ∷ granted ∷ granted ∷ granted ∷ ok (pos 9) 0 ∷ []
  -- another map is all that is held, and the record is its name
  pub by_its_name :
      told prefix 64 (three_objects ++ (Map 5 0 2 31 ∷ Clear 0 ∷ Clear 1 ∷ Clear 2 ∷ Collect ∷ []))
      ≡ granted ∷ granted ∷ granted ∷ granted ∷ granted ∷ granted ∷ granted ∷ ok (pos 19) 0 ∷ []
