-- Lists of calls over new heaps.
use Rattle.std.proofs.Common.{◌≡◌, ℕ, ◌+◌, ◌-◌, ◌<◌, List, [], ◌∷◌, ◌++◌, length, get_or, pos, take, drop, replicate, sym, refl, ap, ◌∙◌, subst, ap₂, inl, inr, length-append, length-drop, append-nil, arith}
use Rattle.std.proofs.lemmas.Bool.{cases_Bool, cond-true, cond-false}
use Rattle.std.proofs.lemmas.List.{append_assoc, take_more, take_at, drop_at, length-replicate}
use Rattle.scheme.specs.Meaning.{Meaning}
use Rattle.graph.specs.declared.Call.{Call}
use Rattle.graph.specs.declared.Call.TheVariants.{Num}
use Rattle.graph.specs.Step.{Outcome, step, run}
use Rattle.graph.specs.Graph.{Graph, bare}
use Rattle.graph.specs.Reach.{reachable}
use Rattle.graph.specs.Words.{packed, packed_handles}
use Rattle.graph.specs.Advance.{State, memory_words, handles_words}
use Rattle.graph.specs.Rests.{state}
use Rattle.graph.specs.Runs.{is_collection, others, to_others}
use Rattle.graph.proofs.Stays.{stays-sound}
use Rattle.graph.proofs.Runs.{still, packs-state, others-agree}
use Rattle.heap.specs.Effects.{View}
use Rattle.heap.specs.Views.{Stands}
use Rattle.service.specs.Course.{Steps, Continues}
use Rattle.service.specs.Moments.{IsPacked}
use Rattle.service.specs.Still.{heap_words, new_heap, graph_of, HeapAfter, ServedAs, Shown, AsOneList, EndsCollected, Alike, Unnoticed}
use Rattle.service.proofs.Steps.{steps-on}
use Rattle.service.proofs.Moments.{state_at, at-push, heap-after, ends, answers-are, moment-at}

module _ (m : Meaning) (memory : List ℕ) where
  abbrev W : ℕ
  W = heap_words memory

  new-stands : Stands m (new_heap memory) bare []
  new-stands =
      let zeros = length-replicate {A = ℕ} W 0 in
      let whole : W ≡ W - 0 = omega arith in
      let long : length (new_heap memory).words ≡ length memory = omega (arith, length-append (replicate W 0) (drop W memory), length-drop W memory, zeros) in
      record {
        rests = record {
          sound = (stays-sound m W).0;
          memory = take_at (replicate W 0) (drop W memory) W zeros ∙ sym (append-nil (replicate W 0)) ∙ ap (λ (k : ℕ). replicate k 0 ++ []) whole;
          handle_words_are = refl;
        };
        limited = omega (arith, long);
        low_is = refl;
        high_is = whole;
      }

  new-heap : HeapAfter m memory [] (new_heap memory)
  new-heap = heap-after m memory [] (new_heap memory) refl new-stands (drop_at (replicate W 0) (drop W memory) W (length-replicate W 0))

  pub served : (calls : List Call) (heaps : List View) (answers : List Outcome) (last : View) → Steps m (new_heap memory) calls heaps answers last → ServedAs m memory calls answers last
  served calls heaps answers last steps =
      record {
        answered = answers-are m memory [] (new_heap memory) calls heaps answers last new-heap steps;
        after = ends m memory [] (new_heap memory) calls heaps answers last new-heap steps;
        heaps = heaps;
        steps = steps;
        moments = λ front c back e.
            moment-at m memory [] (new_heap memory) front c back heaps answers last last last _ new-heap
            (subst (λ (cs : List Call). Steps m (new_heap memory) cs heaps answers last) e steps);
      }

-- both lists as one
pub as-one-list : (m : Meaning) (heap : View) (at_hand : List Outcome) (calls : List Call) (answers : List Outcome) (last : View) → Continues m heap at_hand calls answers last → AsOneList m heap at_hand calls answers last
as-one-list m heap at_hand calls answers last on memory front earlier was =
    subst (λ (os : List Outcome). ServedAs m memory (front ++ calls) os last) (append_assoc earlier at_hand on.new ∙ ap (λ (os : List Outcome). earlier ++ os) (sym on.behind))
    (served m memory (front ++ calls) (was.heaps ++ on.heaps) ((earlier ++ at_hand) ++ on.new) last
    (steps-on m (new_heap memory) front was.heaps (earlier ++ at_hand) heap calls on.heaps on.new last was.steps on.steps))

graph-others : (m : Meaning) (W : ℕ) (cs : List Call) (g : Graph) → (run m W cs g).1 ≡ (run m W (others cs) g).1
graph-others m W [] g = refl
graph-others m W (c ∷ cs) g =
    let rest = graph-others m W cs (step m W c g).1 in
    elim (cases_Bool (is_collection c)) [
      | inl e ↦ rest ∙ ap (λ (h : Graph). (run m W (others cs) h).1) (still m W c g e) ∙ ap (λ (ds : List Call). (run m W ds g).1) (sym (cond-true (is_collection c) (others cs) (c ∷ others cs) e))
      | inr e ↦ rest ∙ ap (λ (ds : List Call). (run m W ds g).1) (sym (cond-false (is_collection c) (others cs) (c ∷ others cs) e))
    ]

-- after a list whose last call collects, the packed words of its graph stand
ends-packed : (m : Meaning) (memory : List ℕ) (calls : List Call) (answers : List Outcome) (heap : View) → ServedAs m memory calls answers heap → EndsCollected calls → IsPacked (heap_words memory) (graph_of m memory calls) heap
ends-packed m memory calls answers heap s ends =
    let W : ℕ = heap_words memory in
    let g : Graph = graph_of m memory ends.0 in
    let is : state_at m memory calls ≡ state g (reachable g) =
    ap (state_at m memory) ends.2 ∙ at-push m memory ends.0 ends.1 ∙ packs-state m W ends.1 (state_at m memory ends.0) ends.3 in
    let graph_is : g ≡ graph_of m memory calls = ap (λ (x : State). x.graph) (sym is) in
    record {
      memory = s.after.words ∙ ap (memory_words W) is ∙ ap (packed W) graph_is;
      handles = s.after.handles ∙ ap (handles_words W) is ∙ ap (packed_handles W) graph_is;
    }

pub unnoticed : (m : Meaning) (memory : List ℕ) (calls : List Call) (answers : List Outcome) (heap : View) → ServedAs m memory calls answers heap → Unnoticed m memory calls answers heap
unnoticed m memory calls answers heap s memory' calls' answers' heap' s' long same =
    let graph_is : graph_of m memory calls ≡ graph_of m memory' calls' =
    ap (λ (k : ℕ). (run m k calls bare).1) long
    ∙ graph-others m (heap_words memory') calls bare
    ∙ ap (λ (cs : List Call). (run m (heap_words memory') cs bare).1) same
    ∙ sym (graph-others m (heap_words memory') calls' bare) in
    record {
      told =
          ap (to_others calls) (s.answered ∙ ap (λ (k : ℕ). (run m k calls bare).0) long)
          ∙ others-agree m (heap_words memory') calls calls' bare same
          ∙ ap (to_others calls') (sym s'.answered);
      graph = graph_is;
      words = λ ends ends'.
          let here = ends-packed m memory calls answers heap s ends in
          let there = ends-packed m memory' calls' answers' heap' s' ends' in
          (here.memory ∙ ap₂ packed long graph_is ∙ sym there.memory, here.handles ∙ ap₂ packed_handles long graph_is ∙ sym there.handles);
    }

-- the same of two heaps under schemes of one meaning
pub alike : (m m' : Meaning) (memory memory' : List ℕ) (calls calls' : List Call) (answers answers' : List Outcome) (heap heap' : View) → ServedAs m memory calls answers heap → ServedAs m' memory' calls' answers' heap' → m ≡ m'
    → heap_words memory ≡ heap_words memory' → others calls ≡ others calls' → Alike m memory calls answers heap memory' calls' answers' heap'
alike m m' memory memory' calls calls' answers answers' heap heap' one other means =
    unnoticed m memory calls answers heap one memory' calls' answers' heap' (subst (λ (n : Meaning). ServedAs n memory' calls' answers' heap') (sym means) other)

-- call i of a list, behind those before it
pub one-more : {S : Type 0} (meaning : S → Meaning) (scheme here : S) (memory : List ℕ) (calls : List Call) (i : ℕ) (os : List Outcome) (v : View) (ps : List Outcome) (w : View) → here ≡ scheme → i < length calls → ServedAs (meaning scheme) memory (take i calls) os v
    → Continues (meaning here) v os (get_or calls i (Num 0 (pos 0)) ∷ []) ps w → ServedAs (meaning scheme) memory (take (i + 1) calls) ps w
one-more meaning scheme here memory calls i os v ps w same lt was more =
    let m : Meaning = meaning scheme in
    let call : Call = get_or calls i (Num 0 (pos 0)) in
    subst (λ (cs : List Call). ServedAs m memory cs ps w) (sym (take_more calls i (Num 0 (pos 0)) lt))
    (as-one-list m v os (call ∷ []) ps w (subst (λ s. Continues (meaning s) v os (call ∷ []) ps w) same more) memory (take i calls) [] was)

-- as an onlooker is shown it
pub shown-more : {S : Type 0} (meaning : S → Meaning) (scheme here next : S) (memory : List ℕ) (calls : List Call) (i : ℕ) (os : List Outcome) (v : View) (ps told : List Outcome) (w : View) → here ≡ scheme → next ≡ here → told ≡ ps → i < length calls
    → ServedAs (meaning scheme) memory (take i calls) os v → Continues (meaning here) v os (get_or calls i (Num 0 (pos 0)) ∷ []) ps w → Shown (meaning next) (take (i + 1) calls) told w
shown-more meaning scheme here next memory calls i os v ps told w same kept e lt was more =
    record {
      memory = memory;
      served = subst (λ s. ServedAs (meaning s) memory (take (i + 1) calls) told w) (sym (kept ∙ same))
          (subst (λ (qs : List Outcome). ServedAs (meaning scheme) memory (take (i + 1) calls) qs w) (sym e) (one-more meaning scheme here memory calls i os v ps w same lt was more));
    }
