-- The table tells each word by its name.
use Rattle.std.proofs.Common.{◌≡◌, ℕ, Bool, false, List, [], ◌∷◌, Some, None, Decides, refl, ap, ◌∙◌, ⊎_elim}
use Rattle.std.proofs.lemmas.Slice.Eq.{bytes_eq-Decides}
use Rattle.std.proofs.lemmas.Bool.{cond-false, cases_Bool}
use Rattle.words.specs.declared.Word.{Word}
use Rattle.words.specs.declared.Word.TheVariants as words
use Rattle.words.specs.Table.{name, word_in, word_of, table}

pub not-from : {P : Type 0} (b : Bool) → Decides b P → (P → ⊥) → b ≡ false
not-from b d no-P = ⊎_elim (λ t. absurd (no-P (d.0 t))) (λ f. f) (cases_Bool b)

named : (w : Word) → word_of (name w) ≡ Some w
named words.Num = refl
named words.Clear = refl
named words.Copy = refl
named words.Map = refl
named words.Layout = refl
named words.Record = refl
named words.Load = refl
named words.Save = refl
named words.RawLoad = refl
named words.RawSave = refl
named words.Kind = refl
named words.Value = refl
named words.Same = refl
named words.Part = refl
named words.Figure = refl
named words.Raws = refl
named words.Collect = refl
named words.Fill = refl

none_in : (ws : List Word) (bs : List ℕ) → ((w : Word) → bs ≡ name w → ⊥) → word_in ws bs ≡ None
none_in [] bs h = refl
none_in (w ∷ ws) bs h = cond-false _ _ _ (not-from _ (bytes_eq-Decides bs (name w)) (h w)) ∙ none_in ws bs h

pub word_some : (bs : List ℕ) (w : Word) → bs ≡ name w → word_of bs ≡ Some w
word_some bs w e = ap word_of e ∙ named w

pub word_none : (bs : List ℕ) → ((w : Word) → bs ≡ name w → ⊥) → word_of bs ≡ None
word_none bs h = none_in table bs h
