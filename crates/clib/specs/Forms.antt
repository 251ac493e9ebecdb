-- Calls and answers in their fixed form, and what a list of them gives.
use Rattle.std.specs.Prelude.{◌≡◌, ℕ, cond, List, [], ◌∷◌, map, ℤ, pos, Some, None, Ok, Err, Option, ◌==◌, Result, MatchResult}
use Rattle.std.proofs.Common.{to_z}
use Rattle.std.specs.Int.{w32}
use Rattle.scheme.specs.Meaning.{Meaning}
use Rattle.graph.specs.declared.Call.{Call}
use Rattle.graph.specs.declared.Call.TheVariants.{Num, Clear, Copy, Map, Layout, Record, Load, Save, RawLoad, RawSave, Kind, Value as ValueOf, Same, Part, Figure, Raws, Collect, Fill, Stepped, GivenUp}
use Rattle.graph.specs.Numbers.{refusal_number, refusal_position}
use Rattle.graph.specs.Step.{Outcome}
use Rattle.graph.specs.Advance.{State, advance, advances}
use Rattle.clib.specs.declared.forms.CallWords.{CallWords}
use Rattle.clib.specs.declared.forms.Answer.{Answer}
use Rattle.clib.specs.declared.forms.NoCall.{NoCall}

-- the call that five words stand for
abbrev pub call_of : CallWords → Option Call
call_of w =
    let n = w.number in
    cond (n == 0) (Some (Num w.a (to_z w32 w.b)))
    (cond (n == 1) (Some (Clear w.a))
    (cond (n == 2) (Some (Copy w.a w.b))
    (cond (n == 3) (Some (Map w.a w.b w.c w.d))
    (cond (n == 4) (Some (Layout w.a w.b w.c))
    (cond (n == 5) (Some (Record w.a w.b))
    (cond (n == 6) (Some (Load w.a w.b w.c))
    (cond (n == 7) (Some (Save w.a w.b w.c))
    (cond (n == 8) (Some (RawLoad w.a w.b))
    (cond (n == 9) (Some (RawSave w.a w.b w.c))
    (cond (n == 10) (Some (Kind w.a))
    (cond (n == 11) (Some (ValueOf w.a))
    (cond (n == 12) (Some (Same w.a w.b))
    (cond (n == 13) (Some (Part w.a w.b w.c))
    (cond (n == 14) (Some (Figure w.a))
    (cond (n == 15) (Some (Raws w.a))
    (cond (n == 16) (Some Collect)
    (cond (n == 17) (Some Fill)
    (cond (n == 18) (Some Stepped)
    (cond (n == 19) (Some GivenUp) None)))))))))))))))))))

-- five words are read as their call, or as none where they stand for none
abbrev pub Reads : CallWords → Result Call NoCall → Type 0
Reads w r = MatchResult r (λ c. call_of w ≡ Some c) (λ _. call_of w ≡ None)

abbrev pub answer : ℕ → ℕ → ℤ → Answer
answer granted position number = record { granted = granted; position = position; number = number }

-- an outcome: 1 and the answer, or 0, the refusal's position and its number
abbrev pub answer_of : Outcome → Answer
answer_of (Ok n) = answer 1 0 n
answer_of (Err r) = answer 0 (refusal_position r) (pos (refusal_number r))

-- five words that stand for no call are refused with 43, and nothing is done
abbrev pub no_call : Answer
no_call = answer 0 0 (pos 43)

module _ (m : Meaning) (W : ℕ) where
  abbrev pub answered_to : Option Call → State → Answer × State
  answered_to None st = (no_call, st)
  answered_to (Some c) st = (answer_of (advance m W c st).0, (advance m W c st).1)

  abbrev pub answered : CallWords → State → Answer × State
  answered w st = answered_to (call_of w) st

  -- a list, one after another
  abbrev pub answers : List CallWords → State → List Answer × State
  answers [] st = ([], st)
  answers (w ∷ ws) st = ((answered w st).0 ∷ (answers ws (answered w st).1).0, (answers ws (answered w st).1).1)

-- A list of words that stand for calls is answered as the still graph answers these calls.
abbrev pub ListsAgree : Type 0
ListsAgree =
    (m : Meaning) (W : ℕ) (words : List CallWords) (calls : List Call) (st : State) → map call_of words ≡ map Some calls →
    ((answers m W words st).0 ≡ map answer_of (advances m W calls st).0) × ((answers m W words st).1 ≡ (advances m W calls st).1)
