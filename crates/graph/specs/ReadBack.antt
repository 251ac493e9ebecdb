-- What was stored is read back: numbers, raw words, and values of fields, references among them.
use Rattle.std.specs.Prelude.{◌≡◌, ℕ, ◌≤◌, Bool, List, ℤ, pos, Ok}
use Rattle.scheme.specs.Meaning.{Meaning}
use Rattle.graph.specs.declared.Call.TheVariants.{Num, Load, Save, RawLoad, RawSave, Value as ValueOf}
use Rattle.graph.specs.Graph.{Graph, held}
use Rattle.graph.specs.Step.{outcome, step}
use Rattle.graph.specs.Sound.{Sound}

-- a number that a handle took is answered by `value`
abbrev pub NumbersKept : Type 0
NumbersKept =
    (m : Meaning) (W : ℕ) (g : Graph) (s : List Bool) (h : ℕ) (n : ℤ) → Sound m W g s → outcome m W g (Num h n) ≡ Ok (pos 0)
    → outcome m W (step m W (Num h n) g).1 (ValueOf h) ≡ Ok n

-- a raw field answers the word that it became
abbrev pub RawWordsKept : Type 0
RawWordsKept =
    (m : Meaning) (W : ℕ) (g : Graph) (s : List Bool) (o i w : ℕ) → Sound m W g s → outcome m W g (RawSave o i w) ≡ Ok (pos 0)
    → outcome m W (step m W (RawSave o i w) g).1 (RawLoad o i) ≡ Ok (pos w)

-- a handle takes from a value field the value that was saved there: empty, a number, or the same object
abbrev pub ValuesKept : Type 0
ValuesKept =
    (m : Meaning) (W : ℕ) (g : Graph) (s : List Bool) (o i v d : ℕ) → Sound m W g s → d ≤ 31 → outcome m W g (Save o i v) ≡ Ok (pos 0)
    → (outcome m W (step m W (Save o i v) g).1 (Load d o i) ≡ Ok (pos 0))
    × (held (step m W (Load d o i) (step m W (Save o i v) g).1).1 d ≡ held g v)
