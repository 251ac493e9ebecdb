-- The laws of a whole load.
use Rattle.std.proofs.Common.{◌≡◌, ℕ, zero, suc, ◌+◌, ◌≤◌, Bool, true, false, cond, not, ltb, List, [], ◌∷◌, ◌++◌, map, length, Option, option_map, Some, Ok, Err, Result, sym, refl, ap, ap₂, ◌∙◌, subst, inl, inr, arith}
use Rattle.std.specs.List.{slice_get, filter}
use Rattle.std.proofs.lemmas.List.{length-map}
use Rattle.std.proofs.lemmas.Bool.{cases_Bool, cases_lt, cond-true, cond-false, false≢true, le-ltb, lt-ltb}
use Rattle.scheme.specs.Meaning.{Meaning}
use Rattle.graph.specs.declared.Call.{Call}
use Rattle.graph.specs.Graph.{Graph, bare}
use Rattle.graph.specs.Step.{Outcome, step, run}
use Rattle.graph.specs.Runs.{is_collection}
use Rattle.graph.proofs.Runs.{still}
use Rattle.faults.specs.declared.TextFault.{TextFault}
use Rattle.faults.specs.declared.TextFault.TheVariants.{TooLong, NoNames}
use Rattle.lexer.specs.Pieces.{lines}
use Rattle.load.specs.Calls.{parsed}
use Rattle.load.specs.Steps.{and_then}
use Rattle.load.specs.Names.{Named, columns_in}
use Rattle.load.specs.declared.names.Columns.{Columns}
use Rattle.load.proofs.Once.{named_once}
use Rattle.load.proofs.Titles.{Said, names-told}
use Rattle.report.specs.declared.reports.Report.{Report}
use Rattle.report.specs.declared.line_faults.CallFault.TheVariants.{Text}
use Rattle.report.specs.Faults.{of_text, of_heap, on_line}
use Rattle.report.specs.Loads.{first, behind, answered, runs, told, loaded}
use Rattle.report.specs.Reports.{reported}
use Rattle.report.specs.Laws.{IsRead, said, is_call, is_no_collect, calls_in, Told, told_in, telling, told_where, told_fault, told_outcome, Tells, AlikeWhere, AlikeButFor, KeepsLaws}

-- What lines say, and what is told of them.

abbrev Line : Type 0
Line = Result Call TextFault

abbrev outcomes : List Report → List Told
outcomes rs = map told_in rs

module _ (m : Meaning) (W : ℕ) where
  abbrev next : Line → Graph → Graph
  next (Ok c) g = (step m W c g).1
  next (Err e) g = g

  abbrev what : Line → Graph → Told
  what (Ok c) g = told_outcome (step m W c g).0
  what (Err e) g = told_fault e

  abbrev all_told : List Line → Graph → List Told
  all_told [] g = []
  all_told (x ∷ xs) g = what x g ∷ all_told xs (next x g)

  -- what is told of the lines that pass a test, by the outcomes alone
  abbrev pick : (Line → Bool) → List Line → List Told → List Told
  pick test [] os = []
  pick test (x ∷ xs) [] = []
  pick test (x ∷ xs) (o ∷ os) = cond (test x) (o ∷ pick test xs os) (pick test xs os)

  picked : (test : Line → Bool) (xs : List Line) (rs : List Report) → told_where test xs rs ≡ pick test xs (outcomes rs)
  picked test [] rs = refl
  picked test (x ∷ xs) [] = refl
  picked test (x ∷ xs) (r ∷ rs) = ap (λ (os : List Told). cond (test x) (told_in r ∷ os) os) (picked test xs rs)

  -- lines that change nothing may be left out
  left-out : (test : Line → Bool) → ((x : Line) (g : Graph) → test x ≡ false → next x g ≡ g) → (xs : List Line) (g : Graph) → pick test xs (all_told xs g) ≡ all_told (filter test xs) g
  left-out test idle [] g = refl
  left-out test idle (x ∷ xs) g =
      let rest = left-out test idle xs (next x g) in
      elim (cases_Bool (test x)) [
        | inl e ↦
            cond-true (test x) (what x g ∷ pick test xs (all_told xs (next x g))) _ e
            ∙ ap {B = List Told} (λ (os : List Told). what x g ∷ os) rest
            ∙ ap (λ (ys : List Line). all_told ys g) (sym (cond-true (test x) (x ∷ filter test xs) (filter test xs) e))
        | inr e ↦
            cond-false (test x) (what x g ∷ pick test xs (all_told xs (next x g))) _ e
            ∙ rest
            ∙ ap (all_told (filter test xs)) (idle x g e)
            ∙ ap (λ (ys : List Line). all_told ys g) (sym (cond-false (test x) (x ∷ filter test xs) (filter test xs) e))
      ]

  idle-fault : (x : Line) (g : Graph) → is_call x ≡ false → next x g ≡ g
  idle-fault (Ok c) g e = absurd (false≢true (sym e))
  idle-fault (Err f) g e = refl

  not-not : (b : Bool) → not b ≡ false → b ≡ true
  not-not true e = refl
  not-not false e = absurd (false≢true (sym e))

  idle-collect : (x : Line) (g : Graph) → is_no_collect x ≡ false → next x g ≡ g
  idle-collect (Ok c) g e = still m W c g (not-not (is_collection c) e)
  idle-collect (Err f) g e = absurd (false≢true (sym e))

  -- the calls among the lines are answered as the list of these calls
  calls-told : (xs : List Line) (g : Graph) → pick is_call xs (all_told xs g) ≡ map told_outcome (run m W (calls_in xs) g).0
  calls-told [] g = refl
  calls-told (Ok c ∷ xs) g = ap {B = List Told} (λ (os : List Told). told_outcome (step m W c g).0 ∷ os) (calls-told xs (step m W c g).1)
  calls-told (Err e ∷ xs) g = calls-told xs g

  -- the reports of lines
  told-of : (n : ℕ) (o : Outcome) → told_in (reported n (on_line (of_heap o) n)) ≡ told_outcome o
  told-of n (Ok a) = refl
  told-of n (Err r) = refl

  line-of : (n : ℕ) (o : Outcome) → (reported n (on_line (of_heap o) n)).line ≡ n
  line-of n (Ok a) = refl
  line-of n (Err r) = refl

  one-outcome : (n : ℕ) (x : Line) (g : Graph) → told_in (reported n (on_line (answered (step m W) g x).0 n)) ≡ what x g
  one-outcome n (Ok c) g = told-of n (step m W c g).0
  one-outcome n (Err e) g = refl

  one-line : (n : ℕ) (x : Line) (g : Graph) → (reported n (on_line (answered (step m W) g x).0 n)).line ≡ n
  one-line n (Ok c) g = line-of n (step m W c g).0
  one-line n (Err e) g = refl

  one-next : (x : Line) (g : Graph) → (answered (step m W) g x).1 ≡ next x g
  one-next (Ok c) g = refl
  one-next (Err e) g = refl

  module _ (c : Columns) where
    runs-outcomes : (n : ℕ) (ls : List (List ℕ)) (g : Graph) → outcomes (runs (step m W) g c n ls) ≡ all_told (map (parsed c) ls) g
    runs-outcomes n [] g = refl
    runs-outcomes n (l ∷ ls) g =
        let x = parsed c l in
        ap (λ (o : Told). o ∷ outcomes (runs (step m W) (answered (step m W) g x).1 c (suc n) ls)) (one-outcome n x g)
        ∙ ap {B = List Told} (λ (os : List Told). what x g ∷ os) (ap (λ (h : Graph). outcomes (runs (step m W) h c (suc n) ls)) (one-next x g) ∙ runs-outcomes (suc n) ls (next x g))

    runs-length : (n : ℕ) (ls : List (List ℕ)) (g : Graph) → length (runs (step m W) g c n ls) ≡ length ls
    runs-length n [] g = refl
    runs-length n (l ∷ ls) g = ap suc (runs-length (suc n) ls (answered (step m W) g (parsed c l)).1)

    runs-lines : (n : ℕ) (ls : List (List ℕ)) (g : Graph) (k : ℕ) (r : Report) → slice_get (runs (step m W) g c n ls) k ≡ Some r → r.line ≡ n + k
    runs-lines n [] g k r e = let z : ◌≡◌ {A = ℕ} 0 1 = cc in absurd (omega arith)
    runs-lines n (l ∷ ls) g zero r e =
        let same : reported n (on_line (answered (step m W) g (parsed c l)).0 n) ≡ r = cc in
        let is = ap (λ (y : Report). y.line) (sym same) ∙ one-line n (parsed c l) g in
        omega (arith, is)
    runs-lines n (l ∷ ls) g (suc k) r e =
        let is = runs-lines (suc n) ls (answered (step m W) g (parsed c l)).1 k r e in
        omega (arith, is)

  -- a fault's outcome, read at its place
  faults-told : (xs : List Line) (rs : List Report) (g : Graph) → outcomes rs ≡ all_told xs g → (k : ℕ) (e : TextFault) (r : Report) → slice_get xs k ≡ Some (Err e) → slice_get rs k ≡ Some r → told_in r ≡ told_fault e
  faults-told [] rs g same k e r is here = let z : ◌≡◌ {A = ℕ} 0 1 = cc in absurd (omega arith)
  faults-told (x ∷ xs) [] g same k e r is here = let z : ◌≡◌ {A = ℕ} 0 1 = cc in absurd (omega arith)
  faults-told (x ∷ xs) (y ∷ ys) g same zero e r is here =
      let a : x ≡ Err e = cc in
      let b : y ≡ r = cc in
      let head : told_in y ≡ what x g = cc in
      ap told_in (sym b) ∙ head ∙ ap (λ (z : Line). what z g) a
  faults-told (x ∷ xs) (y ∷ ys) g same (suc k) e r is here =
      let tail : outcomes ys ≡ all_told xs (next x g) = cc in
      faults-told xs ys (next x g) tail k e r is here

  -- what must be told leaves no choice
  pinned : (xs : List Line) (rs : List Report) (g : Graph) → length rs ≡ length xs → ((k : ℕ) (e : TextFault) (r : Report) → slice_get xs k ≡ Some (Err e) → slice_get rs k ≡ Some r → told_in r ≡ told_fault e) → told_where is_call xs rs ≡ map told_outcome (run m W (calls_in xs) g).0 → outcomes rs ≡ all_told xs g
  pinned [] [] g long faults calls = refl
  pinned [] (r ∷ rs) g long faults calls = absurd (omega arith)
  pinned (x ∷ xs) [] g long faults calls = absurd (omega arith)
  pinned (Ok c ∷ xs) (r ∷ rs) g long faults calls =
      let head : told_in r ≡ told_outcome (step m W c g).0 = cc in
      let tail : told_where is_call xs rs ≡ map told_outcome (run m W (calls_in xs) (step m W c g).1).0 = cc in
      let rest = pinned xs rs (step m W c g).1 (omega arith) (λ k e y. faults (suc k) e y) tail in
      cc
  pinned (Err f ∷ xs) (r ∷ rs) g long faults calls =
      let head = faults 0 f r refl refl in
      let rest = pinned xs rs g (omega arith) (λ k e y. faults (suc k) e y) calls in
      cc

  -- The name line.

  by-names : (line : List ℕ) (c : Columns) (r : Result Columns TextFault) → Said line r → Named c line → r ≡ Ok c
  by-names line c (Ok d) here named = ap Ok (named_once line d c here named)
  by-names line c (Err e) here named = absurd (here.1 c named)

  no-names : (line : List ℕ) (r : Result Columns TextFault) → Said line r → ((c : Columns) → Named c line → ⊥) → r ≡ Err NoNames
  no-names line (Ok d) here none = absurd (none d here)
  no-names line (Err e) here none = ap Err here.0

  module _ (input : List ℕ) where
    abbrev name_line : List ℕ
    name_line = first (lines input)

    -- what is told where the input is not too long
    abbrev told_by : Result Columns TextFault → List Report
    told_by (Ok c) = runs (step m W) bare c 2 (behind (lines input))
    told_by (Err e) = telling 1 (told_fault e) ∷ []

    by-columns : (r : Result Columns TextFault) → told (step m W) bare (on_line (of_text r) 1) (behind (lines input)) ≡ told_by r
    by-columns (Ok c) = refl
    by-columns (Err e) = refl

    -- whether the input is too long
    by-length : (long : Bool) → ltb 65536 (length input) ≡ long → loaded m W input ≡ cond long (telling 0 (told_fault TooLong) ∷ []) (told_by (columns_in name_line))
    by-length true e =
        ap (λ (b : Bool). told (step m W) bare (and_then (on_line (cond b (Err (Text TooLong)) (Ok tt)) 0) (λ _. on_line (of_text (columns_in name_line)) 1)) (behind (lines input))) e
    by-length false e =
        ap (λ (b : Bool). told (step m W) bare (and_then (on_line (cond b (Err (Text TooLong)) (Ok tt)) 0) (λ _. on_line (of_text (columns_in name_line)) 1)) (behind (lines input))) e
        ∙ by-columns (columns_in name_line)

    is-read : (c : Columns) → IsRead c input → loaded m W input ≡ runs (step m W) bare c 2 (behind (lines input))
    is-read c read =
        by-length false (le-ltb 65536 (length input) read.short)
        ∙ ap told_by (by-names name_line c (columns_in name_line) (names-told name_line) read.named)

    pub tells-loaded : Tells m W input (loaded m W input)
    tells-loaded =
        record {
          too_long = λ long. by-length true (lt-ltb 65536 (length input) long);
          no_names = λ short none.
              by-length false (le-ltb 65536 (length input) short)
              ∙ ap told_by (no-names name_line (columns_in name_line) (names-told name_line) none);
          one_each = λ c read. ap length (is-read c read) ∙ runs-length c 2 (behind (lines input)) bare;
          numbered = λ c read k r here.
              runs-lines c 2 (behind (lines input)) bare k r (subst (λ (rs : List Report). slice_get rs k ≡ Some r) (is-read c read) here);
          faults = λ c read.
              faults-told (said c input) (loaded m W input) bare (ap outcomes (is-read c read) ∙ runs-outcomes c 2 (behind (lines input)) bare);
          calls = λ c read.
              picked is_call (said c input) (loaded m W input)
              ∙ ap (pick is_call (said c input)) (ap outcomes (is-read c read) ∙ runs-outcomes c 2 (behind (lines input)) bare)
              ∙ calls-told (said c input) bare;
        }

  -- What must be told, and nothing else.

  pinned-load : (input : List ℕ) (reports : List Report) (c : Columns) → Tells m W input reports → IsRead c input → outcomes reports ≡ all_told (said c input) bare
  pinned-load input reports c tells read =
      pinned (said c input) reports bare (tells.one_each c read ∙ sym (length-map (behind (lines input)) (parsed c))) (tells.faults c read) (tells.calls c read)

  -- the report of line n + k
  report-at : (rs : List Report) (os : List Told) (n : ℕ) → outcomes rs ≡ os → ((k : ℕ) (r : Report) → slice_get rs k ≡ Some r → r.line ≡ n + k) → (k : ℕ) → slice_get rs k ≡ option_map (telling (n + k)) (slice_get os k)
  report-at [] [] n same numbered k = refl
  report-at [] (o ∷ os) n same numbered k = let z : ◌≡◌ {A = ℕ} 0 1 = cc in absurd (omega arith)
  report-at (r ∷ rs) [] n same numbered k = let z : ◌≡◌ {A = ℕ} 0 1 = cc in absurd (omega arith)
  report-at (r ∷ rs) (o ∷ os) n same numbered zero =
      let line = numbered 0 r refl in
      let outcome : told_in r ≡ o = cc in
      let whole : r ≡ telling (n + 0) o = ap₂ telling line outcome in
      ap {B = Option Report} (λ (x : Report). Some x) whole
  report-at (r ∷ rs) (o ∷ os) n same numbered (suc k) =
      let rest : outcomes rs ≡ os = cc in
      let next-line = λ (j : ℕ) (x : Report) (e : slice_get rs j ≡ Some x). let is = numbered (suc j) x e in let l : x.line ≡ suc n + j = omega arith in l in
      let e : suc n + k ≡ n + suc k = omega arith in
      report-at rs os (suc n) rest next-line k
      ∙ ap (λ (l : ℕ). option_map (λ (x : Told). telling l x) (slice_get os k)) e

  read-at : (input : List ℕ) (reports : List Report) (c : Columns) → Tells m W input reports → IsRead c input → (k : ℕ) → slice_get reports k ≡ option_map (telling (2 + k)) (slice_get (all_told (said c input) bare) k)
  read-at input reports c tells read = report-at reports (all_told (said c input) bare) 2 (pinned-load input reports c tells read) (tells.numbered c read)

  same-reports : (rs ss : List Report) → ((k : ℕ) → slice_get rs k ≡ slice_get ss k) → rs ≡ ss
  same-reports [] [] same = refl
  same-reports [] (y ∷ ys) same = let e = same 0 in let z : ◌≡◌ {A = ℕ} 0 1 = cc in absurd (omega arith)
  same-reports (x ∷ xs) [] same = let e = same 0 in let z : ◌≡◌ {A = ℕ} 0 1 = cc in absurd (omega arith)
  same-reports (x ∷ xs) (y ∷ ys) same =
      let e = same 0 in
      let rest = same-reports xs ys (λ k. same (suc k)) in
      cc

  module _ (input : List ℕ) (reports others : List Report) (tells : Tells m W input reports) (tells' : Tells m W input others) where
    one-way : (r : Result Columns TextFault) → Said (first (lines input)) r → length input ≤ 65536 → others ≡ reports
    one-way (Ok c) named short =
        let read : IsRead c input = record { short = short; named = named } in
        same-reports others reports (λ k. read-at input others c tells' read k ∙ sym (read-at input reports c tells read k))
    one-way (Err e) none short = tells'.no_names short none.1 ∙ sym (tells.no_names short none.1)

    no-choice : others ≡ reports
    no-choice =
        elim (cases_lt 65536 (length input)) [
          | inl long ↦ tells'.too_long long ∙ sym (tells.too_long long)
          | inr short ↦ one-way (columns_in (first (lines input))) (names-told (first (lines input))) short
        ]

  -- Two loads.

  but-for : (front rest : List Line) (e f : TextFault) (g : Graph) (k : ℕ) → (k ≡ length front → ⊥) → slice_get (all_told (front ++ (Err e ∷ rest)) g) k ≡ slice_get (all_told (front ++ (Err f ∷ rest)) g) k
  but-for [] rest e f g zero other = absurd (other refl)
  but-for [] rest e f g (suc k) other = refl
  but-for (x ∷ xs) rest e f g zero other = refl
  but-for (x ∷ xs) rest e f g (suc k) other = but-for xs rest e f (next x g) k (λ same. other (ap suc same))

  replaced : (input : List ℕ) (reports : List Report) → Tells m W input reports → (other : List ℕ) (others : List Report) → Tells m W other others → AlikeButFor input reports other others
  replaced input reports tells other others tells' c d front rest e f read read' here there k apart =
      let at = λ (xs : List Line). option_map (telling (2 + k)) (slice_get (all_told xs bare) k) in
      read-at input reports c tells read k
      ∙ ap at here
      ∙ ap (option_map (telling (2 + k))) (but-for front rest e f bare k apart)
      ∙ ap at (sym there)
      ∙ sym (read-at other others d tells' read' k)

  alike : (test : Line → Bool) → ((x : Line) (g : Graph) → test x ≡ false → next x g ≡ g) → (input : List ℕ) (reports : List Report) → Tells m W input reports → (other : List ℕ) (others : List Report) → Tells m W other others → AlikeWhere input reports other others test
  alike test idle input reports tells other others tells' c d read read' same =
      let one = λ (i : List ℕ) (rs : List Report) (k : Columns) (t : Tells m W i rs) (r : IsRead k i).
      picked test (said k i) rs ∙ ap (pick test (said k i)) (pinned-load i rs k t r) ∙ left-out test idle (said k i) bare
      in
      one input reports c tells read
      ∙ ap (λ (xs : List Line). all_told xs bare) same
      ∙ sym (one other others d tells' read')

  pub keeps-laws : (input : List ℕ) (reports : List Report) → reports ≡ loaded m W input → KeepsLaws m W input reports
  keeps-laws input reports e =
      let tells = subst (Tells m W input) (sym e) (tells-loaded input) in
      record {
        tells = tells;
        alone = λ others t. no-choice input reports others tells t;
        fault_replaced = λ other others t. replaced input reports tells other others t;
        faults_apart = λ other others t. alike is_call idle-fault input reports tells other others t;
        collects_unnoticed = λ other others t. alike is_no_collect idle-collect input reports tells other others t;
      }
