-- What a call does to a heap at rest.
use Rattle.std.proofs.Common.{◌≡◌, ℕ, ◌+◌, ◌-◌, ◌<◌, min, Bool, true, false, List, [], map, length, get_or, take, drop, set, ℤ, pos, Ok, Err, sym, refl, ap, ◌∙◌, subst, ap₂, arith, length-set}
use Rattle.std.proofs.lemmas.List.{drop-set-lt}
use Rattle.scheme.specs.Meaning.{Meaning}
use Rattle.graph.specs.declared.Call.{Call}
use Rattle.graph.specs.declared.Refusal.{Refusal}
use Rattle.graph.specs.declared.Refusal.TheVariants.{Full}
use Rattle.graph.specs.Graph.{Value, Cell, Graph, object_at, is_record, size, hold}
use Rattle.graph.specs.Reach.{reachable, total}
use lib.Seq.{take-set-lt}
use Rattle.graph.specs.Step.{Act, sets, writes, tells, row, full, answer, after, Outcome, outcome, graph_after}
use Rattle.graph.specs.Words.{low_end, high_end, place_of, reference, value_word, field_word, image, handle_words}
use Rattle.graph.specs.Advance.{standing_after, standing_by, advance}
use Rattle.graph.specs.Rests.{state}
use Rattle.graph.specs.Sound.{Sound}
use Rattle.graph.proofs.Stays.{stays-sound}
use Rattle.graph.proofs.Rests.{write-handle, place-fits}
use Rattle.graph.proofs.Sound.{stands-below}
use Rattle.graph.proofs.Frame.{write-field, written, written-shaped, same-record_size, same-class_size, same-reference}
use Rattle.heap.specs.Effects.{View, parts}
use Rattle.heap.specs.Views.{Stands, Done, Follows}
use Rattle.heap.specs.Checks.{Passes, Stopped}
use Rattle.heap.proofs.Judging.{early, early-stays, outcome-stopped, outcome-granted, outcome-full}

-- the words, the handles and the ends of a heap with the graph and the standing objects
pub record Shows (v : View) (g : Graph) (s : List Bool) : Type 0 where
  pub memory : take v.limit v.words ≡ image v.limit g s []
  pub handle_words_are : v.handles ≡ handle_words v.limit g s
  pub limited : v.limit ≡ min (length v.words) 16384
  pub low_is : v.low ≡ low_end g s
  pub high_is : v.high ≡ high_end v.limit g s

pub shows : (m : Meaning) (v : View) (g : Graph) (s : List Bool) → Stands m v g s → Shows v g s
shows m v g s st =
    record { memory = st.rests.memory; handle_words_are = st.rests.handle_words_are; limited = st.limited; low_is = st.low_is; high_is = st.high_is }

module _ (m : Meaning) (c : Call) (v : View) (g : Graph) (s : List Bool) (st : Stands m v g s) (v' : View) (same : v'.limit ≡ v.limit) (later : drop v.limit v'.words ≡ drop v.limit v.words) where
  -- from the outcome and what the heap shows
  pub done-by : (out : Outcome) → outcome m v.limit g c ≡ out → Shows v' (graph_after out g (row m v.limit g c).1) (standing_by v.limit g s out (row m v.limit g c).1) → Done m c v g s v' out
  done-by out e sh =
      let W = v.limit in
      let act = (row m W g c).1 in
      let sh' : Shows v' (graph_after (outcome m W g c) g act) (standing_by W g s (outcome m W g c) act) =
      subst (λ (o : Outcome). Shows v' (graph_after o g act) (standing_by W g s o act)) (sym e) sh
      in
      let snd = (stays-sound m W).1 c (state g s) st.rests.sound in
      record {
        told = sym e;
        stands =
            record {
              rests =
                  record {
                    sound = subst (λ (k : ℕ). Sound m k (advance m v.limit c (state g s)).1.graph (advance m v.limit c (state g s)).1.standing) (sym same) snd;
                    memory = sh'.memory;
                    handle_words_are = sh'.handle_words_are;
                  };
              limited = sh'.limited;
              low_is = sh'.low_is;
              high_is = sh'.high_is;
            };
        later = later;
      }

  -- where it is granted, and where there is no room
  pub granted-done : (act : Act) → (row m v.limit g c).1 ≡ act → Passes (row m v.limit g c).0 → full v.limit g act ≡ false → Shows v' (after g act) (standing_after v.limit g s act) → Done m c v g s v' (Ok (answer g act))
  granted-done act e p f sh =
      let W = v.limit in
      done-by (Ok (answer g act))
      (outcome-granted m W g c p (ap (full W g) e ∙ f) ∙ ap {B = Outcome} (λ (a : Act). Ok (answer g a)) e)
      (subst (λ (a : Act). Shows v' (after g a) (standing_after W g s a)) (sym e) sh)

  pub full-done : (act : Act) → (row m v.limit g c).1 ≡ act → Passes (row m v.limit g c).0 → full v.limit g act ≡ true → Shows v' g (reachable g) → Done m c v g s v' (Err Full)
  full-done act e p f sh = done-by (Err Full) (outcome-full m v.limit g c p (ap (full v.limit g) e ∙ f)) sh

-- where a condition stops it
pub stopped-follows : (m : Meaning) (c : Call) (v : View) (x : Refusal) → ((g : Graph) (s : List Bool) → Stands m v g s → Stopped (row m v.limit g c).0 x) → Follows m c v v (Err x)
stopped-follows m c v x h =
    record {
      done = λ g s st.
          done-by m c v g s st v refl refl (Err x) (outcome-stopped m v.limit g c x (h g s st))
          (subst (λ (t : List Bool). Shows v g t) (sym (early-stays v.limit g s x (early m v.limit g c x (h g s st)))) (shows m v g s st));
      limit = refl;
    }

-- a call that tells something
pub tells-done : (m : Meaning) (c : Call) (v : View) (g : Graph) (s : List Bool) → Stands m v g s → (n : ℤ) → (row m v.limit g c).1 ≡ tells n → Passes (row m v.limit g c).0 → Done m c v g s v (Ok n)
tells-done m c v g s st n e p = granted-done m c v g s st v refl refl (tells n) e p refl (shows m v g s st)

-- a handle is set
sets-shows : (v : View) (g : Graph) (s : List Bool) (d w : ℕ) (x : Value) → Shows v g s → w ≡ value_word (reference v.limit g s) x → Shows (parts v.words (set v.handles d w) v.low v.high v.limit) (hold g d x) s
sets-shows v g s d w x sh e =
    record {
      memory = sh.memory;
      handle_words_are = ap₂ (λ (xs : List ℕ) (y : ℕ). set xs d y) sh.handle_words_are e ∙ write-handle v.limit g s d x;
      limited = sh.limited;
      low_is = sh.low_is;
      high_is = sh.high_is;
    }

pub sets-done : (m : Meaning) (c : Call) (v : View) (g : Graph) (s : List Bool) → Stands m v g s → (d w : ℕ) (x : Value) → (row m v.limit g c).1 ≡ sets d x → Passes (row m v.limit g c).0 → w ≡ value_word (reference v.limit g s) x → Done m c v g s (parts v.words (set v.handles d w) v.low v.high v.limit) (Ok (pos 0))
sets-done m c v g s st d w x e p is = granted-done m c v g s st _ refl refl (sets d x) e p refl (sets-shows v g s d w x (shows m v g s st) is)

-- a field is written
module _ (m : Meaning) (v : View) (g : Graph) (s : List Bool) (st : Stands m v g s) (q i w : ℕ) (x : Cell) (here : get_or s q false ≡ true) (rec : is_record (object_at g q) ≡ true) (l : 2 + i < size (object_at g q)) (is : w ≡ field_word (reference v.limit g s) x) (p : ℕ) (at : p ≡ place_of v.limit g s q + (2 + i)) where
  lt : q < length g.objects
  lt = omega (arith, stands-below s q here, st.rests.sound.as_long)

  in-W : p < v.limit
  in-W = omega (arith, place-fits v.limit g s q st.rests.sound.fits lt here, l, at)

  writes-shows : Shows (parts (set v.words p w) v.handles v.low v.high v.limit) (written g q lt i x) s
  writes-shows =
      let W = v.limit in
      let sh = shows m v g s st in
      let like = written-shaped g q lt i x in
      let g' = written g q lt i x in
      record {
        memory =
            take-set-lt W v.words p w in-W
            ∙ ap (λ (xs : List ℕ). set xs p w) sh.memory
            ∙ ap₂ (λ (k y : ℕ). set (image W g s []) k y) at is
            ∙ write-field W g s [] st.rests.sound.fits q lt here i x rec l;
        handle_words_are = sh.handle_words_are ∙ ap (λ (r : ℕ → ℕ). map (value_word r) g.handles) (sym (same-reference W g g' s like));
        limited = sh.limited ∙ ap (λ (n : ℕ). min n 16384) (sym (length-set v.words p w));
        low_is = sh.low_is ∙ sym (ap₂ (λ (f : ℕ → ℕ) (n : ℕ). total f n) (same-record_size W g g' s like) like.many);
        high_is = sh.high_is ∙ sym (ap₂ (λ (f : ℕ → ℕ) (n : ℕ). W - total f n) (same-class_size W g g' s like) like.many);
      }

  pub writes-done : (c : Call) → (row m v.limit g c).1 ≡ writes q i x → Passes (row m v.limit g c).0 → Done m c v g s (parts (set v.words p w) v.handles v.low v.high v.limit) (Ok (pos 0))
  writes-done c e ok = granted-done m c v g s st _ refl (drop-set-lt v.limit v.words p w in-W) (writes q i x) e ok refl writes-shows

  pub written-done : (c : Call) (ws : List ℕ) → ws ≡ set v.words p w → (row m v.limit g c).1 ≡ writes q i x → Passes (row m v.limit g c).0 → Done m c v g s (parts ws v.handles v.low v.high v.limit) (Ok (pos 0))
  written-done c ws e r ok = subst (λ (xs : List ℕ). Done m c v g s (parts xs v.handles v.low v.high v.limit) (Ok (pos 0))) (sym e) (writes-done c r ok)
