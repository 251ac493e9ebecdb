-- What each word gives, by the tests of its columns.
use Rattle.std.proofs.Common.{◌≡◌, ℕ, zero, suc, ◌^◌, ◌≤◌, Bool, true, false, cond, ◌&&◌, ◌||◌, eqb, ltb, leb, List, [], ◌∷◌, map, length, get_or, pos, neg_ℤ, Some, None, Ok, Err, codes, Decides, Result, sym, refl, ap, ◌∙◌, subst, arith}
use Rattle.std.specs.Option.{ok_or}
use Rattle.std.specs.Char.{is_ascii_digit}
use Rattle.std.specs.Str.{all_ascii_digits, bytes_eq}
use Rattle.std.proofs.lemmas.Slice.Eq.{bytes_eq-Decides}
use Rattle.std.proofs.lemmas.Bool.{cond-false, eqb-true, eq-eqb, and_left, and_right, both_ways}
use Rattle.std.proofs.lemmas.Bool.Decides.{Decides-and, Decides-or, Decides-ltb, Decides-like}
use Rattle.graph.specs.declared.Call.{Call}
use Rattle.graph.specs.declared.Call.TheVariants as calls
use Rattle.numbers.specs.Numbers.{read_on, numeral, plain, signed, unused}
use Rattle.lexer.specs.Tokens.{Lexeme, word, number, behind_minus, lexeme}
use Rattle.faults.specs.declared.Argument.{Argument}
use Rattle.faults.specs.declared.Argument.TheVariants.{A, B, C, D}
use Rattle.faults.specs.declared.TextFault.{TextFault}
use Rattle.faults.specs.declared.TextFault.TheVariants.{NoValue}
use Rattle.load.proofs.Shapes.{decides-leb}
use Rattle.load.specs.Calls.{arg, whole, spare, spares, numbers, call}
use Rattle.load.specs.Steps.{and_then}
use Rattle.words.specs.declared.Word.{Word}
use Rattle.words.specs.declared.Word.TheVariants as words
use Rattle.load_laws.specs.Lines.{Use, plain_number, whole_number, nothing, use_of, Numeral, Takes, read_whole, meant}

-- `Takes`, as a test
abbrev pub minus_takes : List ℕ → Bool
minus_takes [] = false
minus_takes (x ∷ xs) = eqb x 45 && (numeral xs && leb (read_on 0 xs) (2 ^ 31))

abbrev pub takes : Use → List ℕ → Bool
takes plain_number v = numeral v && ltb (read_on 0 v) (2 ^ 32)
takes whole_number v = (numeral v && ltb (read_on 0 v) (2 ^ 31)) || minus_takes v
takes nothing v = bytes_eq v (codes "-")

decides-true : (b : Bool) → Decides b (b ≡ true)
decides-true b = (λ e. e, λ e. e)

decides-numeral : (v : List ℕ) → Decides (numeral v) (Numeral v)
decides-numeral v =
    Decides-like (numeral v) (λ p. (p.0.0, p.0.1, p.1)) (λ p. ((p.0, p.1), p.2)) (Decides-and _ _ (Decides-and _ _ (decides-leb 1 (length v)) (decides-leb (length v) 10)) (decides-true (all_ascii_digits v)))

tail : List ℕ → List ℕ
tail [] = []
tail (x ∷ xs) = xs

decides-minus : (v : List ℕ) → Decides (minus_takes v) ((ds : List ℕ) × (v ≡ 45 ∷ ds) × Numeral ds × (read_on 0 ds ≤ 2 ^ 31))
unfolding tail
decides-minus [] = (λ e. absurd (both_ways false refl e), λ p. absurd (omega (arith, ap length p.1)))
decides-minus (x ∷ xs) =
    Decides-like (minus_takes (x ∷ xs)) (λ p. (xs, ap (λ y. y ∷ xs) p.0, p.1.0, p.1.1)) (λ p. (ap (λ l. get_or l 0 0) p.1, subst (λ l. Numeral l × (read_on 0 l ≤ 2 ^ 31)) (sym (ap tail p.1)) (p.2, p.3))) (Decides-and _ _ (λ e. eqb-true x 45 e, λ e. eq-eqb x 45 e) (Decides-and _ _ (decides-numeral xs) (decides-leb (read_on 0 xs) (2 ^ 31))))

pub decides-takes : (u : Use) (v : List ℕ) → Decides (takes u v) (Takes u v)
decides-takes plain_number v = Decides-and _ _ (decides-numeral v) (Decides-ltb (read_on 0 v) (2 ^ 32))
decides-takes whole_number v = Decides-or _ _ (Decides-and _ _ (decides-numeral v) (Decides-ltb (read_on 0 v) (2 ^ 31))) (decides-minus v)
decides-takes nothing v = bytes_eq-Decides v (codes "-")

-- What the lexer makes of a value, and what its column takes.

no_digit : (x : ℕ) (xs : List ℕ) → is_ascii_digit x ≡ false → numeral (x ∷ xs) ≡ false
no_digit x xs e = and_right _ _ (and_left _ _ e)

minus-digit : (x : ℕ) → eqb x 45 ≡ true → is_ascii_digit x ≡ false
minus-digit x e = ap is_ascii_digit (eqb-true x 45 e)

plain-minus : (xs : List ℕ) → plain (behind_minus xs) ≡ None
plain-minus [] = refl
plain-minus (y ∷ ys) = refl

plain_by : (m d : Bool) (x : ℕ) (xs : List ℕ) → eqb x 45 ≡ m → is_ascii_digit x ≡ d → plain (cond m (behind_minus xs) (cond d (number false (x ∷ xs)) (word (x ∷ xs)))) ≡ cond (takes plain_number (x ∷ xs)) (Some (read_on 0 (x ∷ xs))) None
plain_by true d x xs em ed = plain-minus xs ∙ sym (cond-false _ _ _ (and_left _ _ (no_digit x xs (minus-digit x em))))
plain_by false true x xs em ed = refl
plain_by false false x xs em ed = sym (cond-false _ _ _ (and_left _ _ (no_digit x xs ed)))

pub plain-is : (v : List ℕ) → plain (lexeme v) ≡ cond (takes plain_number v) (Some (read_on 0 v)) None
plain-is [] = refl
plain-is (x ∷ xs) = plain_by (eqb x 45) (is_ascii_digit x) x xs refl refl

signed-minus : (xs : List ℕ) → signed (behind_minus xs) ≡ cond (numeral xs && leb (read_on 0 xs) (2 ^ 31)) (Some (neg_ℤ (pos (read_on 0 xs)))) None
signed-minus [] = refl
signed-minus (y ∷ ys) = refl

or-false : (b : Bool) → (b || false) ≡ b
or-false true = refl
or-false false = refl

signed_by : (m d n : Bool) (x : ℕ) (xs : List ℕ) → eqb x 45 ≡ m → is_ascii_digit x ≡ d → numeral (x ∷ xs) ≡ n → signed (cond m (behind_minus xs) (cond d (number false (x ∷ xs)) (word (x ∷ xs)))) ≡ cond ((n && ltb (read_on 0 (x ∷ xs)) (2 ^ 31)) || (m && (numeral xs && leb (read_on 0 xs) (2 ^ 31)))) (Some (cond m (neg_ℤ (pos (read_on 0 xs))) (pos (read_on 0 (x ∷ xs))))) None
signed_by true d true x xs em ed en = absurd (both_ways _ (no_digit x xs (minus-digit x em)) en)
signed_by true d false x xs em ed en = signed-minus xs
signed_by false true n x xs em ed en =
    ap (λ b. cond (b && ltb (read_on 0 (x ∷ xs)) (2 ^ 31)) (Some (pos (read_on 0 (x ∷ xs)))) None) en
    ∙ ap (λ b. cond b (Some (pos (read_on 0 (x ∷ xs)))) None) (sym (or-false (n && ltb (read_on 0 (x ∷ xs)) (2 ^ 31))))
signed_by false false true x xs em ed en = absurd (both_ways _ (no_digit x xs ed) en)
signed_by false false false x xs em ed en = refl

pub signed_is : (v : List ℕ) → signed (lexeme v) ≡ cond (takes whole_number v) (Some (read_whole v)) None
signed_is [] = refl
signed_is (x ∷ xs) = signed_by (eqb x 45) (is_ascii_digit x) (numeral (x ∷ xs)) x xs refl refl refl

unused-by : (m d : Bool) (x : ℕ) (xs : List ℕ) → unused (cond m (behind_minus xs) (cond d (number false (x ∷ xs)) (word (x ∷ xs)))) ≡ cond (m && bytes_eq xs []) (Some tt) None
unused-by true d x [] = refl
unused-by true d x (y ∷ ys) = refl
unused-by false true x xs = refl
unused-by false false x xs = refl

pub unused-is : (v : List ℕ) → unused (lexeme v) ≡ cond (takes nothing v) (Some tt) None
unused-is [] = refl
unused-is (x ∷ xs) = unused-by (eqb x 45) (is_ascii_digit x) x xs

-- The four columns, one after another.

abbrev pub judged : (a b c d : Bool) → Call → Result Call TextFault
judged a b c d k = cond a (cond b (cond c (cond d (Ok k) (Err (NoValue D))) (Err (NoValue C))) (Err (NoValue B))) (Err (NoValue A))

-- a column as its test
ok_by : {X : Type 0} (b : Bool) (i : X) (e : TextFault) → ok_or (cond b (Some i) None) e ≡ cond b (Ok i) (Err e)
ok_by true i e = refl
ok_by false i e = refl

arg-is : (v : List ℕ) (x : Argument) → arg (lexeme v) x ≡ cond (takes plain_number v) (Ok (read_on 0 v)) (Err (NoValue x))
arg-is v x = ap (λ o. ok_or o (NoValue x)) (plain-is v) ∙ ok_by (takes plain_number v) (read_on 0 v) (NoValue x)

whole-is : (v : List ℕ) (x : Argument) → whole (lexeme v) x ≡ cond (takes whole_number v) (Ok (read_whole v)) (Err (NoValue x))
whole-is v x = ap (λ o. ok_or o (NoValue x)) (signed_is v) ∙ ok_by (takes whole_number v) (read_whole v) (NoValue x)

spare-is : (v : List ℕ) (x : Argument) → spare (lexeme v) x ≡ cond (takes nothing v) (Ok tt) (Err (NoValue x))
spare-is v x = ap (λ o. ok_or o (NoValue x)) (unused-is v) ∙ ok_by (takes nothing v) tt (NoValue x)

-- the columns from the first: n numbers, and the others unused
abbrev judged_from : (Argument → List ℕ) → ℕ → List Argument → (List ℕ → Result Call TextFault) → Result Call TextFault
judged_from v zero [] k = k []
judged_from v zero (x ∷ xs) k = cond (takes nothing (v x)) (judged_from v zero xs k) (Err (NoValue x))
judged_from v (suc n) [] k = k []
judged_from v (suc n) (x ∷ xs) k = cond (takes plain_number (v x)) (judged_from v n xs (λ is. k (read_on 0 (v x) ∷ is))) (Err (NoValue x))

spare_by : (b : Bool) (e : TextFault) (r : Result (Unit {0}) TextFault) (k : List ℕ → Result Call TextFault) → and_then (and_then (and_then {X = Unit {0}} (cond b (Ok tt) (Err e)) (λ _. r)) (λ _. Ok [])) k ≡ cond b (and_then (and_then r (λ _. Ok [])) k) (Err e)
spare_by true e r k = refl
spare_by false e r k = refl

number_by : (b : Bool) (i : ℕ) (e : TextFault) (r : Result (List ℕ) TextFault) (k : List ℕ → Result Call TextFault) → and_then (and_then (cond b (Ok i) (Err e)) (λ i. and_then r (λ is. Ok (i ∷ is)))) k ≡ cond b (and_then r (λ is. k (i ∷ is))) (Err e)
number_by true i e (Ok is) k = refl
number_by true i e (Err f) k = refl
number_by false i e r k = refl

abbrev named : (Argument → List ℕ) → List Argument → List (Lexeme × Argument)
named v xs = map (λ x. (lexeme (v x), x)) xs

numbers-is : (v : Argument → List ℕ) (n : ℕ) (xs : List Argument) (k : List ℕ → Result Call TextFault) → and_then (numbers n (named v xs)) k ≡ judged_from v n xs k
numbers-is v zero [] k = refl
numbers-is v zero (x ∷ xs) k =
    ap (λ r. and_then (and_then (and_then r (λ _. spares (named v xs))) (λ _. Ok [])) k) (spare-is (v x) x)
    ∙ spare_by (takes nothing (v x)) (NoValue x) (spares (named v xs)) k
    ∙ ap (λ r. cond (takes nothing (v x)) r (Err (NoValue x))) (numbers-is v zero xs k)
numbers-is v (suc n) [] k = refl
numbers-is v (suc n) (x ∷ xs) k =
    ap (λ r. and_then (and_then r (λ i. and_then (numbers n (named v xs)) (λ is. Ok (i ∷ is)))) k) (arg-is (v x) x)
    ∙ number_by (takes plain_number (v x)) (read_on 0 (v x)) (NoValue x) (numbers n (named v xs)) k
    ∙ ap (λ r. cond (takes plain_number (v x)) r (Err (NoValue x))) (numbers-is v n xs (λ is. k (read_on 0 (v x) ∷ is)))

all-is : (v : Argument → List ℕ) (n : ℕ) (k : List ℕ → Call) → and_then (numbers n (named v (A ∷ B ∷ C ∷ D ∷ []))) (λ ns. Ok (k ns)) ≡ judged_from v n (A ∷ B ∷ C ∷ D ∷ []) (λ ns. Ok (k ns))
all-is v n k = numbers-is v n (A ∷ B ∷ C ∷ D ∷ []) (λ ns. Ok (k ns))

then_by : {X : Type 0} (b : Bool) (i : X) (e : TextFault) (k : X → Result Call TextFault) → and_then (cond b (Ok i) (Err e)) k ≡ cond b (k i) (Err e)
then_by true i e k = refl
then_by false i e k = refl

num-is : (v : Argument → List ℕ) → call words.Num (lexeme (v A)) (lexeme (v B)) (lexeme (v C)) (lexeme (v D)) ≡ judged (takes plain_number (v A)) (takes whole_number (v B)) (takes nothing (v C)) (takes nothing (v D)) (calls.Num (read_on 0 (v A)) (read_whole (v B)))
num-is v = simp (arg-is, whole-is, spare-is, then_by)

pub call-is : (w : Word) (v : Argument → List ℕ) → call w (lexeme (v A)) (lexeme (v B)) (lexeme (v C)) (lexeme (v D)) ≡ judged (takes (use_of w A) (v A)) (takes (use_of w B) (v B)) (takes (use_of w C) (v C)) (takes (use_of w D) (v D)) (meant w v)
call-is words.Num v = num-is v
call-is words.Clear v = all-is v 1 (λ ns. calls.Clear (get_or ns 0 0))
call-is words.Copy v = all-is v 2 (λ ns. calls.Copy (get_or ns 0 0) (get_or ns 1 0))
call-is words.Map v = all-is v 4 (λ ns. calls.Map (get_or ns 0 0) (get_or ns 1 0) (get_or ns 2 0) (get_or ns 3 0))
call-is words.Layout v = all-is v 3 (λ ns. calls.Layout (get_or ns 0 0) (get_or ns 1 0) (get_or ns 2 0))
call-is words.Record v = all-is v 2 (λ ns. calls.Record (get_or ns 0 0) (get_or ns 1 0))
call-is words.Load v = all-is v 3 (λ ns. calls.Load (get_or ns 0 0) (get_or ns 1 0) (get_or ns 2 0))
call-is words.Save v = all-is v 3 (λ ns. calls.Save (get_or ns 0 0) (get_or ns 1 0) (get_or ns 2 0))
call-is words.RawLoad v = all-is v 2 (λ ns. calls.RawLoad (get_or ns 0 0) (get_or ns 1 0))
call-is words.RawSave v = all-is v 3 (λ ns. calls.RawSave (get_or ns 0 0) (get_or ns 1 0) (get_or ns 2 0))
call-is words.Kind v = all-is v 1 (λ ns. calls.Kind (get_or ns 0 0))
call-is words.Value v = all-is v 1 (λ ns. calls.Value (get_or ns 0 0))
call-is words.Same v = all-is v 2 (λ ns. calls.Same (get_or ns 0 0) (get_or ns 1 0))
call-is words.Part v = all-is v 3 (λ ns. calls.Part (get_or ns 0 0) (get_or ns 1 0) (get_or ns 2 0))
call-is words.Figure v = all-is v 1 (λ ns. calls.Figure (get_or ns 0 0))
call-is words.Raws v = all-is v 1 (λ ns. calls.Raws (get_or ns 0 0))
call-is words.Collect v = all-is v 0 (λ ns. calls.Collect)
call-is words.Fill v = all-is v 0 (λ ns. calls.Fill)
