-- The moment of a call.
use Rattle.std.specs.Prelude.{slice_set}
use Rattle.std.proofs.Common.{◌≡◌, ℕ, ◌+◌, ◌*◌, false, cond, List, [], ◌∷◌, ◌++◌, take, drop, get_or, length, sym, refl, ap, ◌∙◌, subst, ap₂, inl, inr, append-nil}
use Rattle.std.proofs.lemmas.List.{append_assoc, take-append-drop}
use Rattle.scheme.specs.Meaning.{Meaning}
use Rattle.graph.specs.declared.Call.{Call}
use Rattle.graph.specs.Graph.{Graph, is_record}
use Rattle.graph.specs.Reach.{reachable}
use Rattle.graph.specs.Step.{Outcome, row, run, graph_after}
use Rattle.graph.specs.Words.{place_of, reference, value_word, field_word, object_words, put}
use Rattle.graph.specs.Advance.{State, start, advance, advances, standing_by, memory_words, handles_words}
use Rattle.graph.specs.Altered.{innermost, Altered}
use Rattle.graph.specs.Sound.{Sound}
use Rattle.graph.specs.Rests.{state}
use Rattle.graph.proofs.Laws.{runs-agree}
use Rattle.graph.proofs.Runs.{state-push, packs-state}
use Rattle.graph.proofs.Altered.{calls-alter}
use Rattle.heap.specs.Effects.{View}
use Rattle.heap.specs.Views.{Stands, Done, Follows}
use Rattle.heap.specs.Collected.{LeavesCollected}
use Rattle.heap.proofs.Collected.{packed-collected}
use Rattle.service.specs.Course.{MeetsCall, Steps}
use Rattle.service.specs.Moments.{Collects, IsPacked, Untouched, Differs}
use Rattle.service.specs.Still.{heap_words, graph_of, standing_after, HeapAfter, Moment}

-- what a call that has collected leaves of any graph
collects-state : (m : Meaning) (W : ℕ) (c : Call) (st : State) (o : Outcome) → o ≡ (advance m W c st).0 → Collects c o → (advance m W c st).1 ≡ state st.graph (reachable st.graph)
collects-state m W c st o told how =
    let act = (row m W st.graph c).1 in
    elim how [
      | inl p ↦ packs-state m W c st p
      | inr full ↦ ap (λ (x : Outcome). state (graph_after x st.graph act) (standing_by W st.graph st.standing x act)) (sym told ∙ full)
    ]

-- the first words and the later ones
pub all-words : (W : ℕ) (v w : View) → take W w.words ≡ take W v.words → drop W w.words ≡ drop W v.words → w.words ≡ v.words
all-words W v w front back =
    sym (take-append-drop W w.words) ∙ ap₂ {C = List ℕ} (λ (xs ys : List ℕ). xs ++ ys) front back ∙ take-append-drop W v.words

module _ (m : Meaning) (memory : List ℕ) where
  abbrev W : ℕ
  W = heap_words memory

  abbrev pub state_at : List Call → State
  state_at cs = state (graph_of m memory cs) (standing_after m memory cs)

  state-is : (cs : List Call) → (advances m W cs start).1 ≡ state_at cs
  state-is cs = ap (λ (g : Graph). state g (standing_after m memory cs)) (runs-agree m W cs start).1

  -- the still graph after one call more
  pub at-push : (cs : List Call) (c : Call) → state_at (cs ++ (c ∷ [])) ≡ (advance m W c (state_at cs)).1
  at-push cs c = sym (state-is (cs ++ (c ∷ []))) ∙ state-push m W cs c start ∙ ap (λ (x : State). (advance m W c x).1) (state-is cs)

  pub heap-after : (cs : List Call) (v : View) → v.limit ≡ W → Stands m v (graph_of m memory cs) (standing_after m memory cs) → drop W v.words ≡ drop W memory → HeapAfter m memory cs v
  heap-after cs v limit stands later =
      let st = state_at cs in
      record {
        limit = limit;
        stands = stands;
        words = ap (λ (k : ℕ). take k v.words) (sym limit) ∙ stands.rests.memory ∙ ap (λ (k : ℕ). memory_words k st) limit;
        handles = stands.rests.handle_words_are ∙ ap (λ (k : ℕ). handles_words k st) limit;
        later = later;
      }

  module _ (cs : List Call) (v : View) (c : Call) (o : Outcome) (w : View) (came : HeapAfter m memory cs v) (meets : MeetsCall m c v w o) where
    abbrev st : State
    st = state_at cs

    abbrev next : State
    next = state_at (cs ++ (c ∷ []))

    follows : Follows m c v w o
    follows = meets.follows

    done : Done m c v st.graph st.standing w o
    done = follows.done st.graph st.standing came.stands

    pub told : o ≡ (advance m W c st).0
    told = done.told ∙ ap (λ (k : ℕ). (advance m k c st).0) came.limit

    rest : drop W w.words ≡ drop W v.words
    rest = subst (λ (k : ℕ). drop k w.words ≡ drop k v.words) came.limit done.later

    pub left : HeapAfter m memory (cs ++ (c ∷ [])) w
    left =
        heap-after (cs ++ (c ∷ [])) w (follows.limit ∙ came.limit)
        (subst (λ (x : State). Stands m w x.graph x.standing) (sym (at-push cs c)) (subst (λ (k : ℕ). Stands m w (advance m k c st).1.graph (advance m k c st).1.standing) came.limit done.stands))
        (rest ∙ came.later)

    alters : Altered m W c st o next
    alters =
        subst (λ (x : State). Altered m W c st o x) (sym (at-push cs c))
        (subst (λ (x : Outcome). Altered m W c st x (advance m W c st).1) (sym told) (calls-alter m W c st (subst (λ (k : ℕ). Sound m k st.graph st.standing) came.limit came.stands.rests.sound)))

    packs-words : Collects c o → IsPacked W st.graph w
    packs-words how =
        let is = at-push cs c ∙ collects-state m W c st o told how in
        record { memory = left.words ∙ ap (memory_words W) is; handles = left.handles ∙ ap (handles_words W) is }

    -- where the first words and the handles are as they were, all are
    untouched : memory_words W next ≡ memory_words W st → handles_words W next ≡ handles_words W st → Untouched v w
    untouched memory_is handles_are =
        record { memory = all-words W v w (left.words ∙ memory_is ∙ sym came.words) rest; handles = left.handles ∙ handles_are ∙ sym came.handles }

    differs : Differs m W st.graph st.standing c v o w
    differs =
        record {
          collected = packs-words;
          made_packed = λ n d x ok is little.
              let new = alters.made_packed n d x ok is little in
              record { memory = left.words ∙ new.memory; handles = left.handles ∙ new.handles };
          made = λ n d x ok is room.
              let new = alters.made n d x ok is room in
              record {
                memory = left.words ∙ new.memory ∙ ap (λ (ws : List ℕ). put ws (innermost W st.graph st.standing x) (object_words (reference W st.graph st.standing) false x)) (sym came.words);
                handles = left.handles ∙ new.handles ∙ ap (λ (hs : List ℕ). slice_set hs d (innermost W st.graph st.standing x * 4 + cond (is_record x) 2 3)) (sym came.handles);
              };
          handle_set = λ n d x ok is.
              let new = alters.handle_set n d x ok is in
              (all-words W v w (left.words ∙ new.0 ∙ sym came.words) rest, left.handles ∙ new.1 ∙ ap (λ (hs : List ℕ). slice_set hs d (value_word (reference W st.graph st.standing) x)) (sym came.handles));
          field_written = λ n q i x ok is.
              let new = alters.field_written n q i x ok is in
              (left.words ∙ new.0 ∙ ap (λ (ws : List ℕ). slice_set ws (place_of W st.graph st.standing q + (2 + i)) (field_word (reference W st.graph st.standing) x)) (sym came.words), left.handles ∙ new.1 ∙ sym came.handles);
          told = λ n k ok is. let new = alters.told n k ok is in untouched new.memory new.handles;
          refused = λ r no other. let new = alters.refused r no other in untouched new.memory new.handles;
        }

    collected : Collects c o → LeavesCollected m v w
    collected how g s was =
        let here = follows.done g s was in
        packed-collected m v w g s was
        (subst (λ (x : State). Stands m w x.graph x.standing) (collects-state m v.limit c (state g s) o here.told how) here.stands) follows.limit here.later

    pub moment : Moment m memory cs c v o w
    moment = record { came = came; left = left; differs = differs; collected = collected }

  -- what follows calls already given
  pub ends : (given : List Call) (v : View) (cs : List Call) (hs : List View) (os : List Outcome) (w : View) → HeapAfter m memory given v → Steps m v cs hs os w → HeapAfter m memory (given ++ cs) w
  ends given v [] [] [] w came r =
      subst (λ (x : View). HeapAfter m memory (given ++ []) x) (sym r) (subst (λ (xs : List Call). HeapAfter m memory xs v) (sym (append-nil given)) came)
  ends given v [] [] (o ∷ os) w came r = absurd r
  ends given v [] (h ∷ hs) os w came r = absurd r
  ends given v (c ∷ cs) [] os w came r = absurd r
  ends given v (c ∷ cs) (h ∷ hs) [] w came r = absurd r
  ends given v (c ∷ cs) (h ∷ hs) (o ∷ os) w came r =
      subst (λ (xs : List Call). HeapAfter m memory xs w) (append_assoc given (c ∷ []) cs) (ends (given ++ (c ∷ [])) h cs hs os w (left given v c o h came r.0) r.1)

  pub answers-are : (given : List Call) (v : View) (cs : List Call) (hs : List View) (os : List Outcome) (w : View) → HeapAfter m memory given v → Steps m v cs hs os w → os ≡ (run m W cs (graph_of m memory given)).0
  answers-are given v [] [] [] w came r = refl
  answers-are given v [] [] (o ∷ os) w came r = absurd r
  answers-are given v [] (h ∷ hs) os w came r = absurd r
  answers-are given v (c ∷ cs) [] os w came r = absurd r
  answers-are given v (c ∷ cs) (h ∷ hs) [] w came r = absurd r
  answers-are given v (c ∷ cs) (h ∷ hs) (o ∷ os) w came r =
      ap₂ {C = List Outcome} (λ (x : Outcome) (xs : List Outcome). x ∷ xs) (told given v c o h came r.0)
      (answers-are (given ++ (c ∷ [])) h cs hs os w (left given v c o h came r.0) r.1 ∙ ap (λ (x : State). (run m W cs x.graph).0) (at-push given c))

  -- the call behind `front`
  pub moment-at : (given : List Call) (v : View) (front : List Call) (c : Call) (back : List Call) (hs : List View) (os : List Outcome) (w : View) (x y : View) (p : Outcome) → HeapAfter m memory given v → Steps m v (front ++ (c ∷ back)) hs os w
      → Moment m memory (given ++ front) c (get_or (v ∷ hs) (length front) x) (get_or os (length front) p) (get_or hs (length front) y)
  moment-at given v [] c back [] os w x y p came r = absurd r
  moment-at given v [] c back (h ∷ hs) [] w x y p came r = absurd r
  moment-at given v [] c back (h ∷ hs) (o ∷ os) w x y p came r =
      subst (λ (xs : List Call). Moment m memory xs c v o h) (sym (append-nil given)) (moment given v c o h came r.0)
  moment-at given v (d ∷ front) c back [] os w x y p came r = absurd r
  moment-at given v (d ∷ front) c back (h ∷ hs) [] w x y p came r = absurd r
  moment-at given v (d ∷ front) c back (h ∷ hs) (o ∷ os) w x y p came r =
      subst (λ (xs : List Call). Moment m memory xs c (get_or (h ∷ hs) (length front) x) (get_or os (length front) p) (get_or hs (length front) y)) (append_assoc given (d ∷ []) front)
      (moment-at (given ++ (d ∷ [])) h front c back hs os w x y p (left given v d o h came r.0) r.1)
