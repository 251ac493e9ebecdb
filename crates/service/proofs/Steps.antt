-- From one heap to another, a call at a time.
use Rattle.std.proofs.Common.{◌≡◌, ℕ, List, [], ◌∷◌, ◌++◌, Ok, Err, refl, ap, ◌∙◌, subst}
use Rattle.std.proofs.lemmas.List.{append_assoc}
use Rattle.scheme.specs.Meaning.{Meaning}
use Rattle.graph.specs.declared.Call.{Call}
use Rattle.graph.specs.Step.{Outcome}
use Rattle.heap.specs.declared.Heap.{Heap}
use Rattle.heap.specs.Effects.{View}
use Rattle.heap.specs.Views.{view, Meets, outcome_of}
use Rattle.service.specs.Course.{MeetsCall, Steps, Continues}

same_outcome : (r : Outcome) → outcome_of (λ n. n) r ≡ r
same_outcome (Ok n) = refl
same_outcome (Err r) = refl

-- one call, by its contract
pub one_call : {M S : Type 0} (words : M → List ℕ) (meaning : S → Meaning) (c : Call) (before after : Heap M S) (r : Outcome) (at_hand answers : List Outcome) → Meets words meaning c before after (outcome_of (λ n. n) r) → answers ≡ at_hand ++ (r ∷ [])
    → Continues (meaning before.scheme) (view words before) at_hand (c ∷ []) answers (view words after)
one_call words meaning c before after r at_hand answers meets e =
    record {
      heaps = view words after ∷ [];
      new = r ∷ [];
      behind = e;
      steps = (
        subst (λ (o : Outcome). MeetsCall (meaning before.scheme) c (view words before) (view words after) o) (same_outcome r) (record { follows = meets.follows; alters = meets.alters }),
        refl,
      );
    }

module _ (m : Meaning) where
  -- one list behind another
  pub steps-on : (v : View) (cs : List Call) (hs : List View) (os : List Outcome) (w : View) (ds : List Call) (is : List View) (ps : List Outcome) (x : View) → Steps m v cs hs os w → Steps m w ds is ps x → Steps m v (cs ++ ds) (hs ++ is) (os ++ ps) x
  steps-on v [] [] [] w ds is ps x r t = subst (λ (y : View). Steps m y ds is ps x) r t
  steps-on v [] [] (p ∷ os) w ds is ps x r t = absurd r
  steps-on v [] (h ∷ hs) os w ds is ps x r t = absurd r
  steps-on v (d ∷ cs) [] os w ds is ps x r t = absurd r
  steps-on v (d ∷ cs) (h ∷ hs) [] w ds is ps x r t = absurd r
  steps-on v (d ∷ cs) (h ∷ hs) (p ∷ os) w ds is ps x r t = (r.0, steps-on h cs hs os w ds is ps x r.1 t)

  pub continues-on : (v : View) (at_hand : List Outcome) (cs : List Call) (os : List Outcome) (w : View) (ds : List Call) (ps : List Outcome) (x : View) → Continues m v at_hand cs os w → Continues m w os ds ps x → Continues m v at_hand (cs ++ ds) ps x
  continues-on v at_hand cs os w ds ps x one two =
      record {
        heaps = one.heaps ++ two.heaps;
        new = one.new ++ two.new;
        behind = two.behind ∙ ap (λ (qs : List Outcome). qs ++ two.new) one.behind ∙ append_assoc at_hand one.new two.new;
        steps = steps-on v cs one.heaps one.new w ds two.heaps two.new x one.steps two.steps;
      }
