-- A list of calls that store and read back, and what it is answered; and what stays in any list.
use Rattle.std.specs.Prelude.{ℕ, List, [], ◌∷◌, ℤ, pos, negsuc, Ok}
use Rattle.graph.specs.declared.Call.{Call}
use Rattle.graph.specs.declared.Call.TheVariants.{Num, Clear, Map, Layout, Record, Load, Save, RawLoad, RawSave, Value as ValueOf, Same, Part, Collect, Stepped, GivenUp}
use Rattle.graph.specs.Graph.{bare}
use Rattle.graph.specs.Step.{Outcome}
use Rattle.graph.specs.Kept.{Kept}
use Rattle.scheme.specs.Meaning.{Meaning}
use Rattle.service.specs.Still.{heap_words}

abbrev pub stored : List Call
stored =
    Map 0 1 31 31 ∷ Layout 1 3 0 ∷ Record 2 1 ∷ Record 3 1 ∷ Clear 2
    ∷ Num 4 (negsuc 536_870_911) ∷ Save 3 1 4 ∷ RawSave 3 0 4_294_967_295 ∷ Save 3 2 3
    ∷ Collect ∷ Load 5 3 1 ∷ ValueOf 5 ∷ RawLoad 3 0 ∷ Load 6 3 2 ∷ Same 6 3
    ∷ Num 4 (pos 0) ∷ Save 3 1 4 ∷ RawSave 3 0 2
    ∷ Stepped ∷ Load 5 3 1 ∷ ValueOf 5 ∷ RawLoad 3 0 ∷ Load 6 3 2 ∷ Same 6 3
    ∷ Num 4 (pos 536_870_911) ∷ Save 3 1 4
    ∷ GivenUp ∷ Load 5 3 1 ∷ ValueOf 5 ∷ Part 7 3 0 ∷ Same 7 1 ∷ Part 7 7 1 ∷ Same 7 0 ∷ []

-- granted, with nothing to tell
abbrev pub done : Outcome
done = Ok (pos 0)

abbrev pub tells : ℤ → Outcome
tells n = Ok n

abbrev pub read_back : List Outcome
read_back =
    done ∷ done ∷ done ∷ done ∷ done
    ∷ done ∷ done ∷ done ∷ done
    ∷ tells (pos 14) ∷ done ∷ tells (negsuc 536_870_911) ∷ tells (pos 4_294_967_295) ∷ done ∷ tells (pos 1)
    ∷ done ∷ done ∷ done
    ∷ tells (pos 14) ∷ done ∷ tells (pos 0) ∷ tells (pos 2) ∷ done ∷ tells (pos 1)
    ∷ done ∷ done
    ∷ done ∷ done ∷ tells (pos 536_870_911) ∷ done ∷ tells (pos 1) ∷ done ∷ tells (pos 1) ∷ []

-- in a list of calls over a new heap, what was stored stays, whatever is called, until a call that was granted overwrites it
abbrev pub StaysStored : Meaning → List ℕ → List Call → List Outcome → Type 0
StaysStored m memory calls answers = Kept m (heap_words memory) bare calls answers
