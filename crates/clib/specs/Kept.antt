-- What a turn does to a heap that its caller keeps.
use Rattle.std.specs.Prelude.{◌≡◌, ℕ, List, ℤ, Ok, Err, Result}
use Rattle.scheme.specs.Meaning.{Meaning}
use Rattle.heap.specs.declared.aside.Aside.{Aside}
use Rattle.clib.specs.declared.turns.Kept.{Kept}
use Rattle.clib.specs.declared.turns.OutOfTurn.{OutOfTurn}
use Rattle.clib.specs.declared.turns.Step.{Step}
use Rattle.clib.specs.declared.turns.Step.TheVariants.{Collect, Begin, Draw, Close, GiveUp}
use Rattle.clib.specs.Errors.{out_of_turn}
use Rattle.clib.specs.Turns.{Collected, BegunBy, DrawnBy, ClosedBy, GivenUpBy}

-- a call from outside: the words and what was put aside before and after, and what is answered
abbrev pub Effect : Type 1
Effect = Meaning → List ℕ → Aside → List ℕ → Aside → ℤ → Type 0

-- The heap was turned so: in turn it keeps its scheme, and out of turn it comes back as it was.
abbrev pub Does : {M S : Type 0} → Effect → (M → List ℕ) → (S → Meaning) → Kept M S → Result (Kept M S × ℤ) (OutOfTurn M S) → Type 0
Does P words meaning kept (Ok turn) =
    P (meaning kept.scheme) (words kept.memory) kept.aside (words turn.0.memory) turn.0.aside turn.1 × (turn.0.scheme ≡ kept.scheme)
Does P words meaning kept (Err out) =
    P (meaning kept.scheme) (words kept.memory) kept.aside (words kept.memory) kept.aside out_of_turn × (out.0 ≡ kept)

-- what each step does
abbrev pub effect_of : Step → Effect
effect_of Collect = Collected
effect_of Begin = BegunBy
effect_of Draw = DrawnBy
effect_of Close = ClosedBy
effect_of GiveUp = GivenUpBy
