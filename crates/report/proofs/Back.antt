-- What the output shows is read back.
use Rattle.std.proofs.Common.{◌≡◌, ℕ, zero, suc, ◌^◌, ◌<◌, true, List, [], ◌∷◌, ◌++◌, map, ℤ, pos, negsuc, neg_ℤ, Some, None, Ok, Err, Result, decimal, refl, ap, ◌∙◌, arith}
use lib.Signed.{mag}
use Rattle.std.specs.Int.{IsInRange}
use Rattle.std.specs.Fmt.{signed_decimal}
use Rattle.std.specs.List.{AllByRecursion}
use Rattle.std.specs.Str.{all_ascii_digits}
use Rattle.std.proofs.lemmas.Fmt.{digits_decimal, digits_value-decimal}
use Rattle.std.proofs.lemmas.Str.Parse.{IsNumeralModel, numerals_by_fold, tells_all_ascii_digits, not_in_digits}
use Rattle.std.proofs.lemmas.Bool.{cond-false, ne_eqb}
use Rattle.numbers.specs.Numbers.{read_on}
use Rattle.lexer.specs.Pieces.{Lacks, lines, pieces}
use Rattle.lexer.proofs.Cuts.{pieces_more, pieces_last, lines_more}
use Rattle.report.specs.declared.reports.Report.{Report}
use Rattle.report.specs.Reports.{state, number, shown_report, written}
use Rattle.report.specs.Reading.{read_signed, read_as, read_values, read_report, Fits, ReadBack, OutputReadBack}

own : IsNumeralModel (λ ds. all_ascii_digits ds ≡ true) (read_on 0)
own = numerals_by_fold _ tells_all_ascii_digits read_on (record { empty = λ n. refl; more = λ n c cs h. refl })

lacks-cons : (m x : ℕ) (xs : List ℕ) → (x ≡ m → ⊥) → Lacks m xs → Lacks m (x ∷ xs)
lacks-cons m x xs no-x h zero below e = no-x e
lacks-cons m x xs no-x h (suc k) below e = h k (omega arith) e

lacks-append : (m : ℕ) (xs ys : List ℕ) → Lacks m xs → Lacks m ys → Lacks m (xs ++ ys)
lacks-append m [] ys hx hy = hy
lacks-append m (x ∷ xs) ys hx hy = lacks-cons m x (xs ++ ys) (hx 0 (omega arith)) (lacks-append m xs ys (λ k h. hx (suc k) (omega arith)) hy)

module _ (m : ℕ) (other : IsInRange 48 57 m → ⊥) where
  lacks-decimal : (n : ℕ) → n < 2 ^ 64 → Lacks m (decimal n)
  lacks-decimal n h = not_in_digits own (decimal n) m (digits_decimal own n h) other

  lacks-signed : (45 ≡ m → ⊥) → (z : ℤ) → mag z < 2 ^ 63 → Lacks m (signed_decimal z)
  lacks-signed minus (pos n) h = lacks-decimal n (omega (arith, h))
  lacks-signed minus (negsuc n) h = lacks-cons m 45 (decimal (suc n)) minus (lacks-decimal (suc n) (omega (arith, h)))

spaces : IsInRange 48 57 32 → ⊥
spaces h = omega (arith, h.0)

newlines : IsInRange 48 57 10 → ⊥
newlines h = omega (arith, h.0)

read_pos : (ds : List ℕ) → Lacks 45 ds → read_signed ds ≡ pos (read_on 0 ds)
read_pos [] h = refl
read_pos (x ∷ xs) h = cond-false _ _ _ (ne_eqb x 45 (h 0 (omega arith)))

signed_back : (z : ℤ) → mag z < 2 ^ 63 → read_signed (signed_decimal z) ≡ z
signed_back (pos n) h = read_pos (decimal n) (lacks-decimal 45 (λ i. omega (arith, i.0)) n (omega (arith, h))) ∙ ap pos (digits_value-decimal own n (omega (arith, h)))
signed_back (negsuc n) h = ap (λ k. neg_ℤ (pos k)) (digits_value-decimal own (suc n) (omega (arith, h)))

lacks-state : (m : ℕ) → m < 97 → (o : Result ℤ ℤ) → Lacks m (state o)
lacks-state m small (Ok answer) = lacks-cons m 111 (107 ∷ []) (λ e. omega (arith, e, small)) (lacks-cons m 107 [] (λ e. omega (arith, e, small)) (λ k h e. omega (arith, h)))
lacks-state m small (Err e) = lacks-cons m 110 (111 ∷ []) (λ e. omega (arith, e, small)) (lacks-cons m 111 [] (λ e. omega (arith, e, small)) (λ k h e. omega (arith, h)))

-- a report is read as it was, where its number and its position are
told-back : (l a : ℕ) (o : Result ℤ ℤ) (i p : List ℕ) → read_signed i ≡ number o → read_on 0 p ≡ a → read_as l (state o) i p ≡ Some (record { line = l; at = a; outcome = o })
told-back l a (Ok answer) i p ei ep = rw (ei, ep) refl
told-back l a (Err e) i p ei ep = rw (ei, ep) refl

module _ (r : Report) (fits : Fits r) where
  line-fits : r.line < 2 ^ 64
  line-fits = omega (arith, fits.line)

  at-fits : r.at < 2 ^ 64
  at-fits = omega (arith, fits.at)

  cut : pieces (shown_report r) ≡ decimal r.line ∷ state r.outcome ∷ signed_decimal (number r.outcome) ∷ decimal r.at ∷ []
  cut =
      pieces_more (decimal r.line) _ (lacks-decimal 32 spaces r.line line-fits)
      ∙ ap (λ ps. decimal r.line ∷ ps) (pieces_more (state r.outcome) _ (lacks-state 32 (omega arith) r.outcome)
      ∙ ap (λ ps. state r.outcome ∷ ps) (pieces_more (signed_decimal (number r.outcome)) _ (lacks-signed 32 spaces (λ e. omega (arith, e)) (number r.outcome) fits.number)
      ∙ ap (λ ps. signed_decimal (number r.outcome) ∷ ps) (pieces_last (decimal r.at) (lacks-decimal 32 spaces r.at at-fits))))

  back : read_report (shown_report r) ≡ Some r
  back =
      ap read_values cut
      ∙ ap (λ l. read_as l (state r.outcome) (signed_decimal (number r.outcome)) (decimal r.at)) (digits_value-decimal own r.line line-fits)
      ∙ told-back r.line r.at r.outcome (signed_decimal (number r.outcome)) (decimal r.at) (signed_back (number r.outcome) fits.number) (digits_value-decimal own r.at at-fits)

  space : (xs : List ℕ) → Lacks 10 xs → Lacks 10 (32 ∷ xs)
  space xs h = lacks-cons 10 32 xs (λ e. omega (arith, e)) h

  one_line : Lacks 10 (shown_report r)
  one_line =
      lacks-append 10 (decimal r.line) _ (lacks-decimal 10 newlines r.line line-fits) (space _ (
      lacks-append 10 (state r.outcome) _ (lacks-state 10 (omega arith) r.outcome) (space _ (
      lacks-append 10 (signed_decimal (number r.outcome)) _ (lacks-signed 10 newlines (λ e. omega (arith, e)) (number r.outcome) fits.number) (space _ (
      lacks-decimal 10 newlines r.at at-fits))))))

pub read_back : ReadBack
read_back = back

written_back : (rs : List Report) → AllByRecursion Fits rs → map read_report (lines (written rs)) ≡ map Some rs
written_back [] fits = refl
written_back (r ∷ rs) fits =
    ap (map read_report) (lines_more (shown_report r) (written rs) (one_line r fits.0))
    ∙ ap (λ o. o ∷ map read_report (lines (written rs))) (back r fits.0)
    ∙ ap (λ os. Some r ∷ os) (written_back rs fits.1)

pub output_back : OutputReadBack
output_back rs fits = ap (λ os. None ∷ os) (written_back rs fits)
