-- The calls that are no collections.
use Rattle.std.proofs.Common.{◌≡◌, true, ◌⊎◌, List, [], ◌∷◌, ◌++◌, length, sym, refl, ap, ◌∙◌, inl, inr, append-nil, suc-ne-zero}
use Rattle.std.proofs.lemmas.Bool.{cases_Bool, cond-true, cond-false}
use Rattle.graph.specs.declared.Call.{Call}
use Rattle.graph.specs.Step.{Outcome}
use Rattle.graph.specs.Runs.{is_collection, others, to_others}

others-append : (xs ys : List Call) → others (xs ++ ys) ≡ others xs ++ others ys
others-append [] ys = refl
others-append (c ∷ xs) ys =
    let rest = others-append xs ys in
    elim (cases_Bool (is_collection c)) [
      | inl e ↦
          cond-true (is_collection c) (others (xs ++ ys)) (c ∷ others (xs ++ ys)) e
          ∙ rest
          ∙ ap (λ (cs : List Call). cs ++ others ys) (sym (cond-true (is_collection c) (others xs) (c ∷ others xs) e))
      | inr e ↦
          cond-false (is_collection c) (others (xs ++ ys)) (c ∷ others (xs ++ ys)) e
          ∙ ap {B = List Call} (λ (cs : List Call). c ∷ cs) rest
          ∙ ap (λ (cs : List Call). cs ++ others ys) (sym (cond-false (is_collection c) (others xs) (c ∷ others xs) e))
    ]

-- one more call, and a collection behind it
pub with_collection : (xs ys : List Call) (c d : Call) → others xs ≡ others ys → is_collection d ≡ true → others ((xs ++ (c ∷ [])) ++ (d ∷ [])) ≡ others (ys ++ (c ∷ []))
with_collection xs ys c d same e =
    others-append (xs ++ (c ∷ [])) (d ∷ [])
    ∙ ap (λ (cs : List Call). others (xs ++ (c ∷ [])) ++ cs) (cond-true (is_collection d) [] (d ∷ []) e)
    ∙ append-nil (others (xs ++ (c ∷ [])))
    ∙ others-append xs (c ∷ [])
    ∙ ap (λ (cs : List Call). cs ++ others (c ∷ [])) same
    ∙ sym (others-append ys (c ∷ []))

-- where calls or answers have come to an end
pub ended : (cs : List Call) (os told : List Outcome) (all : List Outcome) → (length cs ≡ 0) ⊎ (length os ≡ 0) → told ++ to_others cs os ≡ all → told ≡ all
ended [] os told all none e = sym (append-nil told) ∙ e
ended (c ∷ cs) [] told all none e = sym (append-nil told) ∙ e
ended (c ∷ cs) (o ∷ os) told all none e = elim none [ inl z ↦ absurd (suc-ne-zero _ z) | inr z ↦ absurd (suc-ne-zero _ z) ]
