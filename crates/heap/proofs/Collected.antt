-- What stands after a collection, and what has become of each word.
use Rattle.std.proofs.Common.{◌≡◌, ℕ, zero, suc, ◌<◌, Bool, true, false, List, [], ◌∷◌, map, get_or, drop, sym, refl, ap, ◌∙◌, subst, arith}
use Rattle.scheme.specs.Meaning.{Meaning}
use Rattle.graph.specs.Graph.{Value, empty, number, object, Cell, raw, value, Object, a_record, a_layout, a_map, Graph, held, object_at}
use Rattle.graph.specs.Reach.{Reachable, reachable}
use Rattle.graph.specs.Step.{cell_value}
use Rattle.graph.specs.Words.{high_end, reference, value_word, field_word, object_words}
use Rattle.graph.specs.Rests.{Rests}
use Rattle.graph.proofs.Sound.{stands-below}
use Rattle.graph.proofs.Reach.{reach-agrees}
use Rattle.graph.proofs.Sliding.{reachable-slide}
use Rattle.graph.proofs.Laws.{words_same}
use Rattle.graph.proofs.Rests.{read-rests, read-header, read-handle, held_fits}
use Rattle.heap.specs.Effects.{View}
use Rattle.heap.specs.Views.{Stands, Packs}
use Rattle.heap.specs.Phases.{Begins, Draws, Closes}
use Rattle.heap.specs.Collected.{word_values, Renewed, Slid, Collected, LeavesCollected, ClosesCollected}

-- The words of a value, a field and an object before and after.
module _ (W : ℕ) (g : Graph) (s : List Bool) where
  abbrev old : ℕ → ℕ
  old = reference W g s

  abbrev new : ℕ → ℕ
  new = reference W g (reachable g)

  value-renewed : (v : Value) → Renewed W g s v (value_word old v) (value_word new v)
  value-renewed empty = refl
  value-renewed (number n) = refl
  value-renewed (object q) = (refl, refl)

  fields-renewed : (cells : List Cell) (i : ℕ) → Renewed W g s (get_or (map cell_value cells) i empty) (get_or (map (field_word old) cells) i 0) (get_or (map (field_word new) cells) i 0)
  fields-renewed [] i = refl
  fields-renewed (raw w ∷ cells) zero = refl
  fields-renewed (value v ∷ cells) zero = value-renewed v
  fields-renewed (raw w ∷ cells) (suc i) = fields-renewed cells i
  fields-renewed (value v ∷ cells) (suc i) = fields-renewed cells i

  words-renewed : (o : Object) (i : ℕ) → Renewed W g s (get_or (word_values o) i empty) (get_or (object_words old false o) i 0) (get_or (object_words new false o) i 0)
  words-renewed (a_record l cells) zero = refl
  words-renewed (a_record l cells) (suc zero) = (refl, refl)
  words-renewed (a_record l cells) (suc (suc i)) = fields-renewed cells i
  words-renewed (a_layout c m) zero = refl
  words-renewed (a_layout c m) (suc zero) = refl
  words-renewed (a_layout c m) (suc (suc zero)) = (refl, refl)
  words-renewed (a_layout c m) (suc (suc (suc zero))) = refl
  words-renewed (a_layout c m) (suc (suc (suc (suc i)))) = refl
  words-renewed (a_map r n p) zero = refl
  words-renewed (a_map r n p) (suc zero) = refl
  words-renewed (a_map r n p) (suc (suc zero)) = value-renewed n
  words-renewed (a_map r n p) (suc (suc (suc zero))) = value-renewed p
  words-renewed (a_map r n p) (suc (suc (suc (suc zero)))) = refl
  words-renewed (a_map r n p) (suc (suc (suc (suc (suc i))))) = refl

  renewed_words : (v : Value) (a b c d : ℕ) → a ≡ c → b ≡ d → Renewed W g s v c d → Renewed W g s v a b
  renewed_words v a b c d e f = λ r. subst (λ (x : ℕ). Renewed W g s v x b) (sym e) (subst (λ (x : ℕ). Renewed W g s v c x) (sym f) r)

-- a heap that rests with a graph, and then with its reachable objects alone
module _ (m : Meaning) (v w : View) (g : Graph) (s : List Bool) (was : Stands m v g s) (is : Stands m w g (reachable g)) (limit : w.limit ≡ v.limit) where
  now : Rests m v.limit g (reachable g) w.words w.handles
  now = subst (λ (k : ℕ). Rests m k g (reachable g) w.words w.handles) limit is.rests

  stays : (q : ℕ) → Reachable g q → get_or s q false ≡ true
  stays = (reachable-slide m v.limit g s was.rests.sound).1

  stands : (q : ℕ) → Reachable g q → get_or (reachable g) q false ≡ true
  stands q r = (reach-agrees g q).1 (omega (arith, stands-below s q (stays q r), was.rests.sound.as_long)) r

  slid : (q : ℕ) → Reachable g q → Slid v.limit g s v w q
  slid q r =
      record {
        unmarked = read-header m v.limit g (reachable g) w.words w.handles now q (stands q r);
        renewed = λ i l.
            renewed_words v.limit g s (get_or (word_values (object_at g q)) i empty) _ _ _ _
            (read-rests m v.limit g s v.words v.handles was.rests q i (stays q r) l)
            (read-rests m v.limit g (reachable g) w.words w.handles now q i (stands q r) l)
            (words-renewed v.limit g s (object_at g q) i);
      }

  handle-renewed : (h : ℕ) → h < 32 → Renewed v.limit g s (held g h) (get_or v.handles h 0) (get_or w.handles h 0)
  handle-renewed h l =
      renewed_words v.limit g s (held g h) _ _ _ _
      (read-handle m v.limit g s v.words v.handles was.rests h l)
      (read-handle m v.limit g (reachable g) w.words w.handles now h l)
      (value-renewed v.limit g s (held g h))

  follows : (h q : ℕ) → h < 32 → get_or s q false ≡ true → get_or v.handles h 0 ≡ reference v.limit g s q → get_or w.handles h 0 ≡ reference v.limit g (reachable g) q
  follows h q l here e =
      let sound = was.rests.sound in
      let names : held g h ≡ object q =
      words_same v.limit g s sound.fits sound.as_long (held g h) (object q) (held_fits m v.limit g s v.words v.handles was.rests h (held g h) refl) here
      (sym (read-handle m v.limit g s v.words v.handles was.rests h l) ∙ e) in
      read-handle m v.limit g (reachable g) w.words w.handles now h l ∙ ap (value_word (reference v.limit g (reachable g))) names

  pub packed-collected : drop v.limit w.words ≡ drop v.limit v.words → Collected v.limit g s v w
  packed-collected later =
      record {
        words = now.memory;
        handles = now.handle_words_are;
        later = later;
        low = is.low_is;
        high = is.high_is ∙ ap (λ (k : ℕ). high_end k g (reachable g)) limit;
        limit = limit;
        kept = stays;
        slides = (reachable-slide m v.limit g s was.rests.sound).0;
        objects = slid;
        references = handle-renewed;
        same_object = follows;
      }

pub packs-collected : (m : Meaning) (v w : View) (live : ℕ) → Packs m v w live → LeavesCollected m v w
packs-collected m v w live packs g s was = let p = packs.packed g s was in packed-collected m v w g s was p.stands packs.limit p.later

pub closes-collected : (m : Meaning) (drawn w : View) → Closes m drawn w → ClosesCollected m drawn w
closes-collected m drawn w closes v g s live was limit d =
    let c = closes.closed g s live (drop v.limit v.words) d in
    packed-collected m v w g s was c.0 (closes.limit ∙ limit) (ap (λ (k : ℕ). drop k w.words) (sym limit) ∙ c.1)

-- begun, drawn and closed is collected
pub steps-collected : {S : Type 0} (meaning : S → Meaning) (s₀ s₁ s₂ : S) (v a b w : View) (live : ℕ) → Begins (meaning s₀) v a live → s₁ ≡ s₀ → Draws (meaning s₁) a b → s₂ ≡ s₁ → ClosesCollected (meaning s₂) b w → LeavesCollected (meaning s₀) v w
steps-collected {S} meaning s₀ s₁ s₂ v a b w live begins e draws f closes g s was =
    let drawn = subst (λ (x : S). Draws (meaning x) a b) e draws in
    subst (λ (x : S). ClosesCollected (meaning x) b w) (f ∙ e) closes v g s live was (draws.limit ∙ begins.limit) (drawn.drawn g s live (drop v.limit v.words) (begins.begun g s was))
