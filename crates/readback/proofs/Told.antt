-- The answers, computed from the definitions.
use Rattle.std.proofs.Common.{◌≡◌, ℕ, List, length, sym, refl, subst}
use Rattle.scheme.specs.Meaning.{Meaning, prefix, mask}
use Rattle.graph.specs.declared.Call.{Call}
use Rattle.graph.specs.Graph.{bare}
use Rattle.graph.specs.Step.{Outcome, run}
use Rattle.graph.specs.Advance.{start}
use Rattle.graph.specs.Kept.{Kept}
use Rattle.graph.proofs.Kept.{stored-stays}
use Rattle.graph.proofs.Stays.{stays-sound}
use Rattle.service.specs.Still.{heap_words, answers_of}
use Rattle.readback.specs.Stored.{stored, read_back, StaysStored}

module _ (m : Meaning) (memory : List ℕ) (calls : List Call) (long : length memory ≡ 32) (same : calls ≡ stored) where
  over : (n : Meaning) → m ≡ n → answers_of m memory calls ≡ (run n 32 stored bare).0
  over n e = rw (same, e, long) refl

  pub by-prefix : m ≡ prefix → answers_of m memory calls ≡ read_back
  by-prefix e = over prefix e

  pub by-mask : m ≡ mask → answers_of m memory calls ≡ read_back
  by-mask e = over mask e

-- the answers of a new heap are the still graph's
pub stays : (m : Meaning) (memory : List ℕ) (calls : List Call) (answers : List Outcome) → answers ≡ answers_of m memory calls → StaysStored m memory calls answers
stays m memory calls answers e =
    subst (λ (os : List Outcome). Kept m (heap_words memory) bare calls os) (sym e)
    (stored-stays m (heap_words memory) bare start.standing calls (stays-sound m (heap_words memory)).0)
