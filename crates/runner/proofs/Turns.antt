-- Lines, one after another.
use Rattle.std.proofs.Common.{◌≡◌, ℕ, suc, ◌+◌, ◌≤◌, Bool, true, false, cond, eqb, length, arith, append-nil, List, [], ◌∷◌, ◌++◌, ℤ, Ok, Err, Result, sym, refl, ap, ◌∙◌, subst, add-one}
use Rattle.std.proofs.lemmas.List.{append_assoc}
use Rattle.scheme.specs.Meaning.{Meaning}
use Rattle.graph.specs.declared.Call.{Call}
use Rattle.graph.specs.Step.{step}
use Rattle.graph.specs.Graph.{bare}
use Rattle.graph.specs.Advance.{State, start, advance}
use Rattle.faults.specs.declared.TextFault.{TextFault}
use Rattle.load.specs.Calls.{parsed}
use Rattle.load.specs.declared.names.Columns.{Columns}
use Rattle.report.specs.declared.line_faults.CallFault.TheVariants.{Text}
use Rattle.report.specs.declared.line_faults.LineFault.{LineFault}
use Rattle.report.specs.declared.reports.Report.{Report}
use Rattle.report.specs.Faults.{on_line}
use Rattle.report.specs.Loads.{answered, runs, told, heading, behind, loaded}
use Rattle.lexer.specs.Pieces.{grown, lines}
use Rattle.report.specs.Reports.{reported}
use Rattle.heap.specs.Effects.{View}
use Rattle.runner.specs.Runs.{StandsAt, AnswersLine, Reports}

-- what a line gives, over the words that the heap has
pub line_at : (m : Meaning) (c : Columns) (n : ℕ) (l : List ℕ) (v w : View) (r : Result ℤ LineFault) (W : ℕ) → v.limit ≡ W → AnswersLine m c n l v w r → (now : State) → StandsAt m v now
    → (r ≡ on_line (answered (advance m W) now (parsed c l)).0 n) × StandsAt m w (answered (advance m W) now (parsed c l)).1
line_at m c n l v w r W e line now stands =
    subst (λ (k : ℕ). (r ≡ on_line (answered (advance m k) now (parsed c l)).0 n) × StandsAt m w (answered (advance m k) now (parsed c l)).1) e (line.told now stands, line.stands now stands)

-- one line more: what is left gives the same reports
pub turn : (m : Meaning) (W : ℕ) (c : Columns) (n k k' : ℕ) (goal items items' : List Report) (now : State) (l : List ℕ) (rest ls : List (List ℕ)) (x : Report) → n ≡ k → k' ≡ n + 1 → rest ≡ l ∷ ls → items ++ runs (advance m W) now c k rest ≡ goal
    → items' ≡ items ++ (x ∷ []) → x ≡ reported n (on_line (answered (advance m W) now (parsed c l)).0 n) → items' ++ runs (advance m W) (answered (advance m W) now (parsed c l)).1 c k' ls ≡ goal
turn m W c n k k' goal items items' now l rest ls x is next cut left pushed told =
    let then = answered (advance m W) now (parsed c l) in
    let first = reported n (on_line then.0 n) in
    ap (λ (k : ℕ). items' ++ runs (advance m W) then.1 c k ls) (next ∙ add-one n)
    ∙ ap (λ (xs : List Report). xs ++ runs (advance m W) then.1 c (suc n) ls) (pushed ∙ ap (λ (y : Report). items ++ (y ∷ [])) told)
    ∙ append_assoc items (first ∷ []) (runs (advance m W) then.1 c (suc n) ls)
    ∙ ap (λ (xs : List (List ℕ)). items ++ runs (advance m W) now c n xs) (sym cut)
    ∙ ap (λ (k : ℕ). items ++ runs (advance m W) now c k rest) is
    ∙ left

pub ended : (m : Meaning) (W : ℕ) (c : Columns) (k : ℕ) (goal items : List Report) (now : State) (rest : List (List ℕ)) → rest ≡ [] → items ++ runs (advance m W) now c k rest ≡ goal → items ≡ goal
ended m W c k goal items now rest none left =
    sym (append-nil items) ∙ ap (λ (xs : List (List ℕ)). items ++ runs (advance m W) now c k xs) (sym none) ∙ left

-- a text has at most as many lines as bytes
grown-within : (x n : ℕ) (ps : List (List ℕ)) → length ps ≤ n → length (grown x ps) ≤ suc n
grown-within x n [] h = omega arith
grown-within x n (p ∷ ps) h = omega arith

within_by : (b : Bool) (x : ℕ) (xs : List ℕ) → length (lines xs) ≤ length xs → length (cond b ([] ∷ lines xs) (grown x (lines xs))) ≤ suc (length xs)
within_by true x xs h = omega arith
within_by false x xs h = grown-within x (length xs) (lines xs) h

pub lines_within : (bs : List ℕ) → length (lines bs) ≤ length bs
lines_within [] = omega arith
lines_within (x ∷ xs) = within_by (eqb x 10) x xs (lines_within xs)

-- the reports do not depend on what stands
pub runs-agree : (m : Meaning) (W : ℕ) (c : Columns) (n : ℕ) (ls : List (List ℕ)) (st : State) → runs (advance m W) st c n ls ≡ runs (step m W) st.graph c n ls
runs-agree m W c n [] st = refl
runs-agree m W c n (l ∷ ls) st =
    go (parsed c l) (λ next. runs-agree m W c (suc n) ls next)
  where
    go : (x : Result Call TextFault) → ((next : State) → runs (advance m W) next c (suc n) ls ≡ runs (step m W) next.graph c (suc n) ls) → reported n (on_line (answered (advance m W) st x).0 n) ∷ runs (advance m W) (answered (advance m W) st x).1 c (suc n) ls ≡ reported n (on_line (answered (step m W) st.graph x).0 n) ∷ runs (step m W) (answered (step m W) st.graph x).1 c (suc n) ls
    go (Ok k) more = ap {B = List Report} (λ rs. reported n (on_line (answered (step m W) st.graph (Ok k)).0 n) ∷ rs) (more (advance m W k st).1)
    go (Err e) more = ap {B = List Report} (λ rs. reported n (on_line (Err (Text e)) n) ∷ rs) (more st)

-- the reports of a whole load: of the lines behind the name line, or of what stopped it there
pub loads : (m : Meaning) (W : ℕ) (input : List ℕ) (c : Columns) (ls : List (List ℕ)) → Ok c ≡ heading input → ls ≡ behind (lines input) → runs (advance m W) start c 2 ls ≡ loaded m W input
loads m W input c ls named left =
    runs-agree m W c 2 ls start
    ∙ ap (runs (step m W) bare c 2) left
    ∙ ap (λ (x : Result Columns LineFault). told (step m W) bare x (behind (lines input))) named

pub stops : (m : Meaning) (W : ℕ) (input : List ℕ) (e : LineFault) → Err e ≡ heading input → reported e.line (Err e) ∷ [] ≡ loaded m W input
stops m W input e fault = ap (λ (x : Result Columns LineFault). told (step m W) bare x (behind (lines input))) fault

-- over a new heap
pub ran-new : {S : Type 0} (meaning : S → Meaning) (s s₀ : S) (c : Columns) (input : List ℕ) (ls : List (List ℕ)) (v : View) (W : ℕ) (old new : List Report) → s ≡ s₀ → v.limit ≡ W → old ≡ [] → Ok c ≡ heading input → ls ≡ behind (lines input)
    → StandsAt (meaning s₀) v start → Reports (meaning s) c ls v old new → new ≡ loaded (meaning s₀) W input
ran-new {S} meaning s s₀ c input ls v W old new scheme limit none named left stands reports =
    let told = reports start (subst (λ (x : S). StandsAt (meaning x) v start) (sym scheme) stands) in
    told
    ∙ ap (λ (xs : List Report). xs ++ runs (advance (meaning s) v.limit) start c 2 ls) none
    ∙ ap (λ (x : S). runs (advance (meaning x) v.limit) start c 2 ls) scheme
    ∙ ap (λ (k : ℕ). runs (advance (meaning s₀) k) start c 2 ls) limit
    ∙ loads (meaning s₀) W input c ls named left
