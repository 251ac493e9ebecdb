-- A byte more than a load may have is enough of an input.
use Rattle.std.proofs.Common.{◌≡◌, ℕ, ◌<◌, ◌≤◌, ◌⊎◌, List, [], ◌∷◌, ◌++◌, length, Some, None, Ok, Err, Option, Result, IfSome, OnOk, take, inl, inr, sym, refl, ap, ◌∙◌, subst, arith}
use Rattle.std.proofs.lemmas.Bool.{lt-ltb, cond-true, cases_lt}
use Rattle.std.proofs.lemmas.List.{take_all, length-take-le}
use Rattle.std.specs.Prelude.{option_map}
use Rattle.std.specs.Io.KnownBytes.{Appends}
use Rattle.std.specs.Io.Take.{take_limit, take_inner, take_remaining}
use Rattle.std.specs.declared.io.traits.Take.{Take}
use Rattle.scheme.specs.Meaning.{Meaning, prefix}
use Rattle.graph.specs.Graph.{bare}
use Rattle.graph.specs.Step.{step}
use Rattle.faults.specs.declared.TextFault.TheVariants.{TooLong}
use Rattle.report.specs.declared.line_faults.CallFault.TheVariants.{Text}
use Rattle.report.specs.declared.reports.Report.{Report}
use Rattle.lexer.specs.Pieces.{lines}
use Rattle.load.specs.Names.{columns_in}
use Rattle.load.specs.Steps.{and_then}
use Rattle.report.specs.Faults.{of_text, on_line}
use Rattle.report.specs.Laws.{Shows}
use Rattle.report.specs.Reports.{reported, output}
use Rattle.report.proofs.Laws.{keeps-laws}
use Rattle.report.specs.Loads.{first, behind, told, loaded}

-- what every input that is too long tells
abbrev only_fault : List Report
only_fault = reported 0 (Err (record { line = 0; fault = Text TooLong })) ∷ []

told_long : (m : Meaning) (W : ℕ) (xs : List ℕ) → 65536 < length xs → loaded m W xs ≡ only_fault
told_long m W xs long =
    ap (λ x. told (step m W) bare (and_then (on_line x 0) (λ _. on_line (of_text (columns_in (first (lines xs)))) 1)) (behind (lines xs)))
    (cond-true _ _ _ (lt-ltb 65536 (length xs) long))

by_length : (m : Meaning) (W : ℕ) (xs : List ℕ) → (65536 < length xs) ⊎ (length xs ≤ 65536) → loaded m W (take 65537 xs) ≡ loaded m W xs
by_length m W xs (inl long) =
    told_long m W (take 65537 xs) (omega (arith, length-take-le 65537 xs (omega arith))) ∙ sym (told_long m W xs long)
by_length m W xs (inr short) = ap (loaded m W) (take_all 65537 xs (omega arith))

-- the first 65,537 bytes tell what all of them tell
pub taken : (m : Meaning) (W : ℕ) (xs : List ℕ) → loaded m W (take 65537 xs) ≡ loaded m W xs
taken m W xs = by_length m W xs (cases_lt 65536 (length xs))

-- what is read of a reader up to a limit, where its bytes are known
some_read : (known : Option (List ℕ)) (n : ℕ) (before read : List ℕ) → before ≡ [] → IfSome (option_map (take n) known) (λ xs. read ≡ before ++ xs)
    → IfSome known (λ xs. read ≡ take n xs)
some_read None n before read none h = tt
some_read (Some xs) n before read none h = h ∙ ap (λ ys. ys ++ take n xs) none

pub limited : {R : Type 0} (known : R → Option (List ℕ)) (reader : R) (t : Take R) (n : ℕ) (before read : List ℕ) → take_limit t ≡ n → take_inner t ≡ reader → before ≡ []
    → IfSome (take_remaining known t) (λ xs. read ≡ before ++ xs) → IfSome (known reader) (λ xs. read ≡ take n xs)
limited known reader t n before read to from none h =
    some_read (known reader) n before read none (subst (λ r. IfSome (option_map (take n) (known r)) (λ xs. read ≡ before ++ xs)) from (subst (λ k. IfSome (option_map (take k) (known t.inner)) (λ xs. read ≡ before ++ xs)) to h))

-- so what is written of the bytes that were read is the output for all of them
pub all_written : {X E : Type 0} (r : Result X E) (known : Option (List ℕ)) (read text : List ℕ) (old new : Option (List ℕ)) → IfSome known (λ xs. read ≡ take 65537 xs) → text ≡ output (loaded prefix 64 read)
    → OnOk r (Appends old new text) → OnOk r (IfSome known (λ xs. Appends old new (output (loaded prefix 64 xs))))
all_written (Ok x) None read text old new begins told written = tt
all_written (Ok x) (Some xs) read text old new begins told written =
    subst (Appends old new) (told ∙ ap (λ ys. output (loaded prefix 64 ys)) begins ∙ ap output (taken prefix 64 xs)) written
all_written (Err e) known read text old new begins told written = tt

-- and it shows the reports of a load that keeps the laws
pub lawful : {X E : Type 0} (r : Result X E) (known old new : Option (List ℕ)) → OnOk r (IfSome known (λ xs. Appends old new (output (loaded prefix 64 xs))))
    → OnOk r (IfSome known (λ xs. (text : List ℕ) × Shows prefix 64 xs text × Appends old new text))
lawful (Ok x) None old new written = tt
lawful (Ok x) (Some xs) old new written =
    (output (loaded prefix 64 xs), record { reports = loaded prefix 64 xs; shown = refl; laws = keeps-laws prefix 64 xs (loaded prefix 64 xs) refl }, written)
lawful (Err e) known old new written = tt
