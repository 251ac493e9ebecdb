-- The places of names.
use Rattle.std.proofs.Common.{◌≡◌, ℕ, zero, suc, ◌+◌, ◌<◌, Bool, true, false, cond, List, [], ◌∷◌, map, length, get_or, Some, None, Ok, Err, codes, Option, Result, sym, refl, ap, ◌∙◌, subst, arith, MatchResult}
use Rattle.std.specs.Option.{ok_or}
use Rattle.std.proofs.lemmas.Slice.Eq.{bytes_eq-Decides}
use Rattle.std.specs.List.{position_from, position}
use Rattle.std.proofs.lemmas.Iterator.Adapters.{position_from-zero}
use Rattle.std.proofs.lemmas.Bool.{cond-true, cond-false, both_ways}
use Rattle.lexer.specs.Pieces.{pieces, Shaped, shaped}
use Rattle.lexer.specs.Tokens.{Lexeme, word, number, dash, lexeme, spelt, said}
use Rattle.lexer.specs.declared.tokens.Token.{Token}
use Rattle.faults.specs.declared.TextFault.{TextFault}
use Rattle.faults.specs.declared.TextFault.TheVariants.{NoNames}
use Rattle.lexer.proofs.Lexemes.{spelt-lexeme}
use Rattle.load.specs.declared.names.Columns.{Columns}
use Rattle.load.specs.Names.{Named, is_word, later, place_in, place, places, columns_in}
use Rattle.load.specs.Steps.{and_then}
use Rattle.load.proofs.Shapes.{decides-shaped}
use Rattle.words.proofs.Tells.{not-from}

-- a place found behind the first i
abbrev further : ℕ → Option ℕ → Option ℕ
further i None = None
further i (Some k) = Some (i + k)

further-none : (o : Option ℕ) → further 0 o ≡ o
further-none None = refl
further-none (Some k) = ap Some (omega arith)

further-later : (i : ℕ) (o : Option ℕ) → further i (later o) ≡ further (i + 1) o
further-later i None = refl
further-later i (Some k) = ap Some (omega arith)

place_by : (b : Bool) (i : ℕ) (r o : Option ℕ) → r ≡ further (i + 1) o → cond b (Some i) r ≡ further i (cond b (Some 0) (later o))
place_by true i r o e = ap Some (omega arith)
place_by false i r o e = e ∙ sym (further-later i o)

place_from : (n : List ℕ) (i : ℕ) (ts : List Token) → position_from (λ t. is_word n (said t)) i ts ≡ further i (place_in n (map said ts))
place_from n i [] = refl
place_from n i (t ∷ ts) = place_by (is_word n (said t)) i _ _ (place_from n (i + 1) ts)

-- the first place, as `position` gives it
pub placed : (n : List ℕ) (ts : List Token) → position (λ t. is_word n (said t)) ts ≡ place_in n (map said ts)
placed n ts = position_from-zero (λ t. is_word n (said t)) ts ∙ place_from n 0 ts ∙ further-none (place_in n (map said ts))

-- a word of the line is that name
word-true : (n : List ℕ) (l : Lexeme) → is_word n l ≡ true → spelt l ≡ n
word-true n (word w) e = (bytes_eq-Decides w n).0 e
word-true n (number m ds) e = absurd (both_ways false refl e)
word-true n dash e = absurd (both_ways false refl e)

-- where a sequence stops, and what it gives
pub chain : {X Y E : Type 0} (P : X → Type 0) (Q : E → Type 0) (P' : Y → Type 0) (Q' : E → Type 0) (r : Result X E) (k : X → Result Y E) → MatchResult r P Q → ((x : X) → P x → MatchResult (k x) P' Q') → ((e : E) → Q e → Q' e) → MatchResult (and_then r k) P' Q'
chain P Q P' Q' (Ok x) k h go stop = go x h
chain P Q P' Q' (Err e) k h go stop = stop e h

module _ (n : List ℕ) (letters : lexeme n ≡ word n) (some : 0 < length n) where
  abbrev Told : List (List ℕ) → Option ℕ → Type 0
  Told vs None = (k : ℕ) → get_or vs k [] ≡ n → ⊥
  Told vs (Some k) = get_or vs k [] ≡ n

  none_here : (v : List ℕ) (vs : List (List ℕ)) → (v ≡ n → ⊥) → ((k : ℕ) → get_or vs k [] ≡ n → ⊥) → (k : ℕ) → get_or (v ∷ vs) k [] ≡ n → ⊥
  none_here v vs other h zero e = other e
  none_here v vs other h (suc k) e = h k e

  told-later : (v : List ℕ) (vs : List (List ℕ)) (o : Option ℕ) → (v ≡ n → ⊥) → Told vs o → Told (v ∷ vs) (later o)
  told-later v vs None other h = none_here v vs other h
  told-later v vs (Some k) other h = h

  told_more : (v : List ℕ) (vs : List (List ℕ)) → Told vs (place_in n (map lexeme vs)) → (b : Bool) → is_word n (lexeme v) ≡ b → Told (v ∷ vs) (cond b (Some 0) (later (place_in n (map lexeme vs))))
  told_more v vs h true e = sym (spelt-lexeme v) ∙ word-true n (lexeme v) e
  told_more v vs h false e = told-later v vs (place_in n (map lexeme vs)) (λ is. both_ways _ e (ap (λ x. is_word n (lexeme x)) is ∙ ap (is_word n) letters ∙ (bytes_eq-Decides n n).1 refl)) h

  told : (vs : List (List ℕ)) → Told vs (place_in n (map lexeme vs))
  told [] = λ k e. omega (arith, some, ap length e)
  told (v ∷ vs) = told_more v vs (told vs) (is_word n (lexeme v)) refl

  place_of : (vs : List (List ℕ)) (o : Option ℕ) → Told vs o → MatchResult (ok_or o NoNames) (λ k. get_or vs k [] ≡ n) (λ f. (f ≡ NoNames) × ((k : ℕ) → get_or vs k [] ≡ n → ⊥))
  place_of vs None h = (refl, h)
  place_of vs (Some k) h = h

  pub place-told : (vs : List (List ℕ)) → MatchResult (place (map lexeme vs) n) (λ k. get_or vs k [] ≡ n) (λ f. (f ≡ NoNames) × ((k : ℕ) → get_or vs k [] ≡ n → ⊥))
  place-told vs = place_of vs _ (told vs)

module _ (line : List ℕ) where
  abbrev pub Said : Result Columns TextFault → Type 0
  Said r = MatchResult r (λ c. Named c line) (λ f. (f ≡ NoNames) × ((c : Columns) → Named c line → ⊥))

  module _ (n : List ℕ) (letters : lexeme n ≡ word n) (some : 0 < length n) (column : Columns → ℕ) (at : (c : Columns) → Named c line → get_or (pieces line) (column c) [] ≡ n) where
    next : (k : ℕ → Result Columns TextFault) → ((p : ℕ) → get_or (pieces line) p [] ≡ n → Said (k p)) → Said (and_then (place (map lexeme (pieces line)) n) k)
    next k go =
        chain (λ p. get_or (pieces line) p [] ≡ n) (λ f. (f ≡ NoNames) × ((p : ℕ) → get_or (pieces line) p [] ≡ n → ⊥)) (λ c. Named c line) (λ f. (f ≡ NoNames) × ((c : Columns) → Named c line → ⊥)) (place (map lexeme (pieces line)) n) k (place-told n letters some (pieces line)) go (λ e q. (q.0, λ c h. q.1 (column c) (at c h)))

  places-told : Shaped line → Said (places (map lexeme (pieces line)))
  places-told sh =
      next (codes "call") refl (omega arith) (λ c. c.call) (λ _ h. h.at_call) _ (λ k hk.
      next (codes "a") refl (omega arith) (λ c. c.a) (λ _ h. h.at_a) _ (λ a ha.
      next (codes "b") refl (omega arith) (λ c. c.b) (λ _ h. h.at_b) _ (λ b hb.
      next (codes "c") refl (omega arith) (λ c. c.c) (λ _ h. h.at_c) _ (λ c hc.
      next (codes "d") refl (omega arith) (λ c. c.d) (λ _ h. h.at_d) _ (λ d hd.
      record { shaped = sh; at_call = hk; at_a = ha; at_b = hb; at_c = hc; at_d = hd })))))

  names-by : (b : Bool) → shaped line ≡ b → Said (cond b (places (map lexeme (pieces line))) (Err NoNames))
  names-by true e = places-told ((decides-shaped line).0 e)
  names-by false e = (refl, λ c h. both_ways _ e ((decides-shaped line).1 h.shaped))

  pub names-told : Said (columns_in line)
  names-told = names-by (shaped line) refl

  pub columns_ok : Shaped line → columns_in line ≡ places (map lexeme (pieces line))
  columns_ok h = cond-true _ _ _ ((decides-shaped line).1 h)

  pub columns_not : (Shaped line → ⊥) → columns_in line ≡ Err NoNames
  columns_not h = cond-false _ _ _ (not-from _ (decides-shaped line) h)

  pub told_by : (r : Result Columns TextFault) → r ≡ columns_in line → Said r
  told_by r e = subst Said (sym e) names-told
