-- A collection, step by step, on views.
use Rattle.std.proofs.Common.{◌≡◌, ℕ, ◌≤◌, min, Bool, List, [], ◌++◌, length, take, drop, ℤ, pos, Ok, sym, refl, ap, ◌∙◌, subst, ap₂, arith, length-append, length-drop}
use Rattle.std.proofs.lemmas.List.{take_at, drop_at, take-append-drop}
use Rattle.scheme.specs.Meaning.{Meaning}
use Rattle.graph.specs.Graph.{Graph}
use Rattle.graph.specs.Reach.{reachable, live_words}
use Rattle.graph.specs.Words.{low_end, high_end, image, handle_words}
use Rattle.graph.specs.Rests.{Rests}
use Rattle.graph.specs.declared.Call.{Call}
use Rattle.graph.specs.Step.{Check, Act, row, tells, collects}
use Rattle.graph.proofs.Sound.{live-le}
use Rattle.graph.specs.Sound.{Sound}
use Rattle.graph.proofs.Frame.{length-image}
use Rattle.marking.specs.Begins.{BeginsWith}
use Rattle.marking.specs.Begins as marking
use Rattle.space.specs.declared.Bounds.{Bounds}
use Rattle.space.specs.Layout.{Begun}
use Rattle.space.specs.Collect.{Ended}
use Rattle.space.specs.Collect as collect
use Rattle.space.specs.Weave.{Kept}
use Rattle.heap.specs.Effects.{View, parts}
use Rattle.heap.specs.Views.{Stands, Done, Follows, Packs, Tells}
use Rattle.heap.specs.Checks.{Passes, none}
use Rattle.heap.proofs.Acts.{shows, granted-done, tells-done}
use Rattle.heap.specs.Phases.{Begins, Draws, Closes, GivesUp}

-- bounds are the same where their three ends are
pub bounds_same : {a b : Bounds} → a.low ≡ b.low → a.high ≡ b.high → a.limit ≡ b.limit → a ≡ b
bounds_same {a} {b} low high limit =
    ap₂ {C = Bounds} (λ (x y : ℕ). record { low = x; high = y; limit = a.limit }) low high ∙ ap {B = Bounds} (λ (x : ℕ). record { low = b.low; high = b.high; limit = x }) limit

-- a heap at rest, by its words and the later ones
pub stands_from : (m : Meaning) (v : View) (g : Graph) (s : List Bool) (rest : List ℕ) → Sound m v.limit g s → v.words ≡ image v.limit g s [] ++ rest → v.handles ≡ handle_words v.limit g s → v.limit ≡ min (length v.words) 16384 → v.low ≡ low_end g s → v.high ≡ high_end v.limit g s → Stands m v g s × (drop v.limit v.words ≡ rest)
stands_from m v g s rest sound memory handles limited low high =
    let W = v.limit in
    let long : length (image W g s []) ≡ W = length-image W g s [] sound.fits in (
      record {
        rests = record { sound = sound; memory = ap (take W) memory ∙ take_at (image W g s []) rest W long; handle_words_are = handles };
        limited = limited;
        low_is = low;
        high_is = high;
      },
      ap (drop W) memory ∙ drop_at (image W g s []) rest W long,
    )

pub begin-begins : (m : Meaning) (v w : View) (live : ℕ) → marking.Begins m v.limit v.low v.high v.words v.handles w.words w.handles live → w.low ≡ v.low → w.high ≡ v.high → w.limit ≡ v.limit → Begins m v w live
begin-begins m v w live begins low high limit =
    record {
      begun = λ g s st.
          let W = v.limit in
          let small : W ≤ 16384 = omega (arith, st.limited) in
          let b = begins g s small st.rests st.low_is st.high_is in
          let marked = b.begun.memory in
          let long : length w.words ≡ length v.words =
          ap length marked ∙ length-append (image W g s (reachable g)) (drop W v.words)
          ∙ omega (arith, length-image W g s (reachable g) st.rests.sound.fits, length-drop W v.words, st.limited) in
          record {
            begun = subst (λ (k : ℕ). Begun m k g s (reachable g) (drop W v.words) w.words w.handles w.low w.high) (sym limit)
                (subst (λ (k : ℕ). Begun m W g s (reachable g) (drop W v.words) w.words w.handles k w.high) (sym low)
                (subst (λ (k : ℕ). Begun m W g s (reachable g) (drop W v.words) w.words w.handles v.low k) (sym high) b.begun));
            limited = limit ∙ st.limited ∙ ap (λ (n : ℕ). min n 16384) (sym long);
            live_is = b.live;
          };
      any_order = λ g s st. (begins g s (omega (arith, st.limited)) st.rests st.low_is st.high_is).any_order;
      low = low;
      high = high;
      limit = limit;
    }

pub draw-draws : (m : Meaning) (v w : View) → collect.Draws m v.words v.handles v.limit v.low v.high w.words w.handles → Kept v.words v.handles w.words w.handles → w.low ≡ v.low → w.high ≡ v.high → w.limit ≡ v.limit → Draws m v w
draw-draws m v w draws kept low high limit =
    record {
      drawn = λ g s live rest b.
          let W = v.limit in
          let d = draws W g s (reachable g) rest refl b.begun in
          record {
            drawn = subst (λ (k : ℕ). collect.Drawn m k g s (reachable g) rest w.words w.handles) (sym limit) d;
            low_is = low ∙ b.begun.low_end_is;
            high_is = high ∙ b.begun.high_end_is ∙ ap (λ (k : ℕ). high_end k g s) (sym limit);
            limited = limit ∙ b.limited ∙ ap (λ (n : ℕ). min n 16384) (sym kept.length);
            live_is = b.live_is;
          };
      limit = limit;
    }

pub close-closes : (m : Meaning) (v w : View) → collect.Closes v.words v.handles v.limit v.low v.high w.low w.high w.words w.handles → Kept v.words v.handles w.words w.handles → w.limit ≡ v.limit → Closes m v w
close-closes m v w closes kept limit =
    record {
      closed = λ g s live rest d.
          let W = v.limit in
          let e : Ended m w.limit g (reachable g) rest w.words w.handles w.low w.high =
          subst (λ (k : ℕ). Ended m k g (reachable g) rest w.words w.handles w.low w.high) (sym limit) (closes m W g s (reachable g) rest refl d.low_is d.high_is d.drawn) in
          let r = stands_from m w g (reachable g) rest e.sound e.memory e.handle_words_are (limit ∙ d.limited ∙ ap (λ (n : ℕ). min n 16384) (sym kept.length)) e.low_end_is e.high_end_is in
          (r.0, ap (λ (k : ℕ). drop k w.words) (sym limit) ∙ r.1);
      limit = limit;
    }

pub give-up-gives-up : (m : Meaning) (v w : View) → marking.GivesUp v.limit v.low v.high v.words v.handles w.words w.handles → w.low ≡ v.low → w.high ≡ v.high → w.limit ≡ v.limit → GivesUp m v w
give-up-gives-up m v w gives low high limit =
    record {
      rests = λ g s live rest b.
          let W = v.limit in
          let sound = b.begun.keeps.sound in
          let old : List ℕ = image W g s [] ++ rest in
          let long : length (image W g s []) ≡ W = length-image W g s [] sound.fits in
          let rested : Rests m W g s old (handle_words W g s) = record { sound = sound; memory = take_at (image W g s []) rest W long; handle_words_are = refl } in
          let later : drop W old ≡ rest = drop_at (image W g s []) rest W long in
          let back = gives m g s (reachable g) old (handle_words W g s) rested (subst (λ (xs : List ℕ). Begun m W g s (reachable g) xs v.words v.handles v.low v.high) (sym later) b.begun) in
          let marked : length v.words ≡ length w.words =
          ap length b.begun.memory ∙ length-append (image W g s (reachable g)) rest
          ∙ omega (arith, length-image W g s (reachable g) sound.fits, long, length-append (image W g s []) rest, ap length back.0) in
          let r = stands_from m w g s rest
          (subst (λ (k : ℕ). Sound m k g s) (sym limit) sound)
          (back.0 ∙ ap (λ (k : ℕ). image k g s [] ++ rest) (sym limit))
          (back.1 ∙ ap (λ (k : ℕ). handle_words k g s) (sym limit))
          (limit ∙ b.limited ∙ ap (λ (n : ℕ). min n 16384) marked)
          (low ∙ b.begun.low_end_is)
          (high ∙ b.begun.high_end_is ∙ ap (λ (k : ℕ). high_end k g s) (sym limit)) in
          (r.0, ap (λ (k : ℕ). drop k w.words) (sym limit) ∙ r.1);
      low = low;
      high = high;
      limit = limit;
    }

-- begun, drawn and closed is packed
pub pack-packs : (m : Meaning) (v a b w : View) (live : ℕ) → Begins m v a live → Draws m a b → Closes m b w → Packs m v w live
pack-packs m v a b w live begins draws closes =
    record {
      packed = λ g s st.
          let rest = drop v.limit v.words in
          let begun = begins.begun g s st in
          let c = closes.closed g s live rest (draws.drawn g s live rest begun) in
          record {
            told = begun.live_is;
            stands = c.0;
            later = ap (λ (k : ℕ). drop k w.words) (sym (draws.limit ∙ begins.limit)) ∙ c.1;
          };
      limit = closes.limit ∙ draws.limit ∙ begins.limit;
    }

-- two heaps at rest with one graph, and with the same later words, are the same
same_view : (m : Meaning) (v w : View) (g : Graph) (s : List Bool) → Stands m v g s → Stands m w g s → w.limit ≡ v.limit → drop v.limit w.words ≡ drop v.limit v.words → w.low ≡ v.low → w.high ≡ v.high → w ≡ v
same_view m v w g s st st' limit later low high =
    let W = v.limit in
    let front : take W w.words ≡ take W v.words =
    ap (λ (k : ℕ). take k w.words) (sym limit) ∙ st'.rests.memory ∙ ap (λ (k : ℕ). image k g s []) limit ∙ sym st.rests.memory in
    let words : w.words ≡ v.words = sym (take-append-drop W w.words) ∙ ap₂ (λ (xs ys : List ℕ). xs ++ ys) front later ∙ take-append-drop W v.words in
    let handles : w.handles ≡ v.handles = st'.rests.handle_words_are ∙ ap (λ (k : ℕ). handle_words k g s) limit ∙ sym st.rests.handle_words_are in
    ap₂ (λ (xs ys : List ℕ). parts xs ys w.low w.high w.limit) words handles
    ∙ ap₂ (λ (x y : ℕ). parts v.words v.handles x y w.limit) low high
    ∙ ap (λ (x : ℕ). parts v.words v.handles v.low v.high x) limit

-- begun and given up is as before, and the live words are known
pub weigh-tells : (m : Meaning) (v a w : View) (live : ℕ) → Begins m v a live → GivesUp m a w → Tells m v w live
weigh-tells m v a w live begins gives =
    let limit = gives.limit ∙ begins.limit in
    record {
      told = λ g s st. (begins.begun g s st).live_is;
      same = λ g s st.
          let r = gives.rests g s live (drop v.limit v.words) (begins.begun g s st) in
          same_view m v w g s st r.0 limit (ap (λ (k : ℕ). drop k w.words) (sym begins.limit) ∙ r.1) (gives.low ∙ begins.low) (gives.high ∙ begins.high);
      limit = limit;
    }

-- the same over the heap's scheme, which each step keeps
pub packs-by : {S : Type 0} (meaning : S → Meaning) (s₀ s₁ s₂ : S) (v a b w : View) (live : ℕ) → Begins (meaning s₀) v a live → s₁ ≡ s₀ → Draws (meaning s₁) a b → s₂ ≡ s₁ → Closes (meaning s₂) b w → Packs (meaning s₀) v w live
packs-by {S} meaning s₀ s₁ s₂ v a b w live begins e draws f closes =
    pack-packs (meaning s₀) v a b w live begins (subst (λ (x : S). Draws (meaning x) a b) e draws) (subst (λ (x : S). Closes (meaning x) b w) (f ∙ e) closes)

pub tells-by : {S : Type 0} (meaning : S → Meaning) (s₀ s₁ : S) (v a w : View) (live : ℕ) → Begins (meaning s₀) v a live → s₁ ≡ s₀ → GivesUp (meaning s₁) a w → Tells (meaning s₀) v w live
tells-by {S} meaning s₀ s₁ v a w live begins e gives = weigh-tells (meaning s₀) v a w live begins (subst (λ (x : S). GivesUp (meaning x) a w) e gives)

-- a collection follows the still graph
pub packs-follow : (m : Meaning) (c : Call) (v w : View) (live : ℕ) → ((W : ℕ) (g : Graph) → row m W g c ≡ ([], collects)) → Packs m v w live → Follows m c v w (Ok (pos live))
packs-follow m c v w live is packs =
    record {
      done = λ g s st.
          let W = v.limit in
          let p = packs.packed g s st in
          let ok : Passes (row m W g c).0 = subst (λ (r : List Check × Act). Passes r.0) (sym (is W g)) none in
          subst (λ (n : ℕ). Done m c v g s w (Ok (pos n))) (sym p.told)
          (granted-done m c v g s st w packs.limit p.later collects (ap (λ (r : List Check × Act). r.1) (is W g)) ok refl (shows m w g (reachable g) p.stands));
      limit = packs.limit;
    }

-- and so does a call that only weighs the heap
pub tells-follow : (m : Meaning) (c : Call) (v w : View) (live : ℕ) (n : ℤ) → ((g : Graph) (s : List Bool) → Stands m v g s → row m v.limit g c ≡ ([], tells n)) → Tells m v w live → Follows m c v w (Ok n)
tells-follow m c v w live n is told =
    record {
      done = λ g s st.
          let row_is = is g s st in
          let ok : Passes (row m v.limit g c).0 = subst (λ (r : List Check × Act). Passes r.0) (sym row_is) none in
          subst (λ (u : View). Done m c v g s u (Ok n)) (sym (told.same g s st)) (tells-done m c v g s st n (ap (λ (r : List Check × Act). r.1) row_is) ok);
      limit = told.limit;
    }

-- how many of a standing heap's words are live
pub live_small : (m : Meaning) (v : View) (g : Graph) (s : List Bool) → Stands m v g s → (live_words g ≤ 16384) × (v.limit ≤ 16384)
live_small m v g s st =
    let small : v.limit ≤ 16384 = omega (arith, st.limited) in
    (omega (arith, live-le m v.limit g s st.rests.sound, st.rests.sound.fits, small), small)

pub packs-told : {m : Meaning} {v w : View} {live live' : ℕ} → live' ≡ live → Packs m v w live → Packs m v w live'
packs-told {m} {v} {w} e packs = subst (λ (n : ℕ). Packs m v w n) (sym e) packs
