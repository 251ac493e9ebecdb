-- Lists of calls in their fixed form.
use Rattle.std.proofs.Common.{◌≡◌, ℕ, List, [], ◌∷◌, ◌++◌, drop, Some, Option, sym, refl, ap, ◌∙◌, subst, ap₂}
use Rattle.scheme.specs.Meaning.{Meaning}
use Rattle.graph.specs.declared.Call.{Call}
use Rattle.graph.specs.Advance.{State, advance}
use Rattle.clib.specs.declared.forms.CallWords.{CallWords}
use Rattle.clib.specs.declared.forms.Answer.{Answer}
use Rattle.heap.specs.Effects.{View}
use Rattle.clib.specs.Turns.{StandsAt, Answers}
use Rattle.clib.specs.Forms.{call_of, answer_of, answered_to, answered, answers, ListsAgree}

module _ (m : Meaning) (W : ℕ) where
  -- one more call
  pub told_push : (ws : List CallWords) (w : CallWords) (st : State) → (answers m W (ws ++ (w ∷ [])) st).0 ≡ (answers m W ws st).0 ++ ((answered m W w (answers m W ws st).1).0 ∷ [])
  told_push [] w st = refl
  told_push (x ∷ ws) w st = ap (λ (rest : List Answer). (answered m W x st).0 ∷ rest) (told_push ws w (answered m W x st).1)

  pub state-push : (ws : List CallWords) (w : CallWords) (st : State) → (answers m W (ws ++ (w ∷ [])) st).1 ≡ (answered m W w (answers m W ws st).1).1
  state-push [] w st = refl
  state-push (x ∷ ws) w st = state-push ws w (answered m W x st).1

  -- what one more call gives, once those before it are answered
  pub one_more : (ws : List CallWords) (w : CallWords) (v v' : View) (r : Answer) (st : State) → v.limit ≡ W → StandsAt m v (answers m W ws st).1 → Answers m w v v' r →
      (r ≡ (answered m W w (answers m W ws st).1).0) × StandsAt m v' (answers m W (ws ++ (w ∷ [])) st).1 × (drop W v'.words ≡ drop W v.words)
  one_more ws w v v' r st limit stands a =
      let now = (answers m W ws st).1 in (
        a.told now stands ∙ ap (λ (k : ℕ). (answered m k w now).0) limit,
        subst (λ (x : State). StandsAt m v' x) (ap (λ (k : ℕ). (answered m k w now).1) limit ∙ sym (state-push ws w st)) (a.stands now stands),
        subst (λ (k : ℕ). drop k v'.words ≡ drop k v.words) limit (a.later now stands),
      )

pub lists_agree : ListsAgree
lists_agree m W [] [] st e = (refl, refl)
lists_agree m W [] (c ∷ cs) st e = cc
lists_agree m W (w ∷ ws) [] st e = cc
lists_agree m W (w ∷ ws) (c ∷ cs) st e =
    let here : call_of w ≡ Some c = cc in
    let next : answered m W w st ≡ (answer_of (advance m W c st).0, (advance m W c st).1) = ap (λ (o : Option Call). answered_to m W o st) here in
    let rest = lists_agree m W ws cs (advance m W c st).1 cc in
    let moved : answers m W ws (answered m W w st).1 ≡ answers m W ws (advance m W c st).1 = ap (λ (x : Answer × State). answers m W ws x.1) next in (
      ap₂ {C = List Answer} (λ (a : Answer) (rest : List Answer). a ∷ rest) (ap (λ (x : Answer × State). x.0) next) (ap (λ (x : List Answer × State). x.0) moved ∙ rest.0),
      ap (λ (x : List Answer × State). x.1) moved ∙ rest.1,
    )
