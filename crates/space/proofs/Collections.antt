-- Each kept object's words after a collection are those of before.
use Rattle.std.proofs.Common.{◌≡◌, ℕ, ◌+◌, ◌<◌, Bool, true, false, List, [], get_or, take, sym, refl, ap, ◌∙◌, arith}
use Rattle.std.proofs.lemmas.Bool.{true≢false}
use Rattle.std.proofs.lemmas.List.{get_or-map}
use Rattle.graph.specs.Graph.{Value, empty, number, object, Graph, held, object_at, size}
use Rattle.graph.specs.Words.{place_of, reference, value_word, object_words, image}
use Rattle.graph.specs.Places.{is_object}
use Rattle.graph.proofs.Places.{word_in}
use Rattle.graph.proofs.Slots.{refers_to, plain_word}
use Rattle.scheme.specs.Meaning.{Meaning}
use Rattle.graph.specs.Rests.{Rests}
use Rattle.graph.proofs.Frame.{mid-take, length-image}
use Rattle.space.specs.Collect.{Ended}
use Rattle.space.specs.Collections.{SameWord, SameHandle, FieldsStay}

pub fields-stay : FieldsStay
fields-stay m W g s k rest words handles words' handles' low high low' high' b e = (fields, roots)
  where
    before : (q i : ℕ) → get_or k q false ≡ true → i < size (object_at g q) → get_or words (place_of W g s q + i) 0 ≡ get_or (object_words (reference W g s) (get_or k q false) (object_at g q)) i 0
    before q i kq l =
        ap (λ (xs : List ℕ). get_or xs (place_of W g s q + i) 0) b.memory
        ∙ word_in W g s b.keeps.sound.fits b.keeps.sound.as_long k rest q i (b.keeps.stand q kq) l

    after : (q i : ℕ) → get_or k q false ≡ true → i < size (object_at g q) → get_or words' (place_of W g k q + i) 0 ≡ get_or (object_words (reference W g k) false (object_at g q)) i 0
    after q i kq l = ap (λ (xs : List ℕ). get_or xs (place_of W g k q + i) 0) e.memory ∙ word_in W g k e.sound.fits e.sound.as_long [] rest q i kq l

    fields : (q i : ℕ) → get_or k q false ≡ true → 0 < i → i < size (object_at g q) → SameWord W g s k (object_at g q) i (get_or words (place_of W g s q + i) 0) (get_or words' (place_of W g k q + i) 0)
    fields q i kq a l =
        record {
          refers = λ f.
              let t = refers_to (object_at g q) i f l in
              (t.0, t.1, b.keeps.named_kept q t.0 kq t.1, before q i kq l ∙ t.2 (reference W g s) (get_or k q false), after q i kq l ∙ t.2 (reference W g k) false);
          plain = λ f. after q i kq l ∙ plain_word (object_at g q) i f a l (reference W g k) (reference W g s) false (get_or k q false) ∙ sym (before q i kq l);
        }

    first : (h : ℕ) → h < 32 → get_or handles h 0 ≡ value_word (reference W g s) (held g h)
    first h l = ap (λ (xs : List ℕ). get_or xs h 0) b.handle_words_are ∙ get_or-map (value_word (reference W g s)) g.handles h empty 0 (omega (arith, b.keeps.sound.handles_32))

    last : (h : ℕ) → h < 32 → get_or handles' h 0 ≡ value_word (reference W g k) (held g h)
    last h l = ap (λ (xs : List ℕ). get_or xs h 0) e.handle_words_are ∙ get_or-map (value_word (reference W g k)) g.handles h empty 0 (omega (arith, b.keeps.sound.handles_32))

    same : (v : Value) → is_object v ≡ false → value_word (reference W g k) v ≡ value_word (reference W g s) v
    same empty z = refl
    same (number n) z = refl
    same (object t) z = absurd (true≢false z)

    roots : (h : ℕ) → h < 32 → SameHandle W g s k (held g h) (get_or handles h 0) (get_or handles' h 0)
    roots h l =
        record {
          refers = λ t f. (b.keeps.held_kept h t f, first h l ∙ ap (value_word (reference W g s)) f, last h l ∙ ap (value_word (reference W g k)) f);
          plain = λ z. last h l ∙ same (held g h) z ∙ sym (first h l);
        }

-- a heap whose collection is closed is at rest
pub rests-again : (m : Meaning) (W : ℕ) (g : Graph) (k : List Bool) (rest words handles : List ℕ) (low high : ℕ) → Ended m W g k rest words handles low high → Rests m W g k words handles
rests-again m W g k rest words handles low high e =
    record {
      sound = e.sound;
      memory = ap (take W) e.memory ∙ mid-take [] (image W g k []) rest 0 W refl (length-image W g k [] e.sound.fits);
      handle_words_are = e.handle_words_are;
    }
