-- The laws of lines.
use Rattle.std.proofs.Common.{◌≡◌, ℕ, zero, suc, ◌+◌, ◌<◌, Bool, true, false, cond, eqb, ◌⊎◌, List, [], ◌∷◌, map, length, get_or, Some, None, Ok, Err, sum_by, Option, Result, sym, refl, ap, ◌∙◌, subst, inl, inr, ⊎_elim, arith}
use Rattle.std.specs.Option.{ok_or}
use Rattle.std.specs.List.{AllByRecursion}
use Rattle.std.specs.List.Sorted.{IsPermutation}
use Rattle.std.specs.Str.{bytes_eq}
use Rattle.std.proofs.lemmas.Slice.Eq.{bytes_eq-Decides}
use Rattle.std.proofs.lemmas.List.Sorted.{length_permutation, IsPermutation-sym, sum_by-IsPermutation}
use Rattle.std.proofs.ByRecursion.{all_shuffled}
use Rattle.std.proofs.lemmas.List.Sums.{sum_by-cons}
use Rattle.std.proofs.lemmas.Bool.{cond-true, cond-false, both_ways}
use Rattle.graph.specs.declared.Call.{Call}
use Rattle.lexer.proofs.Cuts.{pieces_some}
use Rattle.lexer.proofs.Lexemes.{spelt-lexeme}
use Rattle.faults.specs.Faults.{argument_position, text_number, text_position}
use Rattle.lexer.specs.Pieces.{grown, pieces, Full, Shaped, shaped}
use Rattle.lexer.specs.Tokens.{Lexeme, word, number, dash, lexeme, spelt}
use Rattle.faults.specs.declared.Argument.{Argument}
use Rattle.faults.specs.declared.Argument.TheVariants.{A, B, C, D}
use Rattle.faults.specs.declared.TextFault.{TextFault}
use Rattle.faults.specs.declared.TextFault.TheVariants.{NoShape, NoWord, NoValue}
use Rattle.load.proofs.Shapes.{decides-shaped, parsed-shape, parsed-err, parsed-call}
use Rattle.load.specs.Calls.{parsed, call, value_at, word_said}
use Rattle.load.specs.declared.names.Columns.{Columns}
use Rattle.words.proofs.Tells.{not-from, word_some, word_none}
use Rattle.words.specs.Table.{name, table, word_in, word_of}
use Rattle.words.specs.declared.Word.{Word}
use Rattle.words.specs.declared.Word.TheVariants as words
use Rattle.load_laws.proofs.Columns.{takes, decides-takes, judged, call-is}
use Rattle.load_laws.specs.Lines.{use_of, Takes, meant, under, under_call, Calls, CallExactly, GivesCallExactly, InOrder, FaultsInOrder, FirstNot, ColumnNamed, FirstColumnNamed, Reordered, AnyOrderOfNames}

-- The number and the position of a result, to tell results apart.

abbrev num : Result Call TextFault → ℕ
num (Ok k) = 0
num (Err e) = text_number e

abbrev at : Result Call TextFault → ℕ
at (Ok k) = 0
at (Err e) = text_position e

abbrev granted : Call → Result Call TextFault → Call
granted d (Ok k) = k
granted d (Err e) = d

-- The call word.

said-name : (w : Word) → word_said (lexeme (name w)) ≡ Some w
said-name words.Num = refl
said-name words.Clear = refl
said-name words.Copy = refl
said-name words.Map = refl
said-name words.Layout = refl
said-name words.Record = refl
said-name words.Load = refl
said-name words.Save = refl
said-name words.RawLoad = refl
said-name words.RawSave = refl
said-name words.Kind = refl
said-name words.Value = refl
said-name words.Same = refl
said-name words.Part = refl
said-name words.Figure = refl
said-name words.Raws = refl
said-name words.Collect = refl
said-name words.Fill = refl

said-none : (l : Lexeme) → ((w : Word) → spelt l ≡ name w → ⊥) → word_said l ≡ None
said-none (word u) h = word_none u h
said-none (number m ds) h = refl
said-none dash h = refl

pub at-lexeme : (vs : List (List ℕ)) (k : ℕ) → get_or (map lexeme vs) k (word []) ≡ lexeme (get_or vs k [])
at-lexeme [] k = refl
at-lexeme (v ∷ vs) zero = refl
at-lexeme (v ∷ vs) (suc k) = at-lexeme vs k

abbrev Ways : List Word → List ℕ → Type 0
Ways ws v = ((w : Word) × (v ≡ name w)) ⊎ (word_in ws v ≡ None)

way_by : (w : Word) (ws : List Word) (v : List ℕ) (b : Bool) → bytes_eq v (name w) ≡ b → Ways ws v → ((x : Word) × (v ≡ name x)) ⊎ (cond b (Some w) (word_in ws v) ≡ None)
way_by w ws v true e h = inl (w, (bytes_eq-Decides v (name w)).0 e)
way_by w ws v false e h = h

way_in : (ws : List Word) (v : List ℕ) → Ways ws v
way_in [] v = inr refl
way_in (w ∷ ws) v = way_by w ws v (bytes_eq v (name w)) refl (way_in ws v)

abbrev some : Option Word → Bool
some None = false
some (Some w) = true

not_named : (v : List ℕ) → word_of v ≡ None → (w : Word) → v ≡ name w → ⊥
not_named v e w is = both_ways true (ap some (sym (word_some v w is) ∙ e)) refl

-- What a line gives, way by way.

abbrev judge : Word → (Argument → List ℕ) → Result Call TextFault
judge w v = judged (takes (use_of w A) (v A)) (takes (use_of w B) (v B)) (takes (use_of w C) (v C)) (takes (use_of w D) (v D)) (meant w v)

module _ (p : Columns) (line : List ℕ) where
  gives-no-word : Shaped line → ((w : Word) → under_call p line ≡ name w → ⊥) → parsed p line ≡ Err NoWord
  gives-no-word sh h =
      parsed-err p line (map lexeme (pieces line)) (sh, refl) (value_at (map lexeme (pieces line)) p.call) (ok_or (word_said (value_at (map lexeme (pieces line)) p.call)) NoWord) NoWord refl refl (
      ap (λ o. ok_or o NoWord) (ap word_said (at-lexeme (pieces line) p.call) ∙ said-none (lexeme (under_call p line)) (λ w e. h w (sym (spelt-lexeme (under_call p line)) ∙ e))))

  gives-judged : (w : Word) → Calls p line w → parsed p line ≡ judge w (under p line)
  gives-judged w c =
      parsed-call p line (map lexeme (pieces line)) (c.0, refl) (value_at (map lexeme (pieces line)) p.call) (ok_or (word_said (value_at (map lexeme (pieces line)) p.call)) NoWord) w refl refl (
      ap (λ o. ok_or o NoWord) (ap word_said (at-lexeme (pieces line) p.call ∙ ap lexeme c.1) ∙ said-name w))
      ∙ ap (λ x. call w x (value_at (map lexeme (pieces line)) p.b) (value_at (map lexeme (pieces line)) p.c) (value_at (map lexeme (pieces line)) p.d)) (at-lexeme (pieces line) p.a)
      ∙ ap (λ x. call w (lexeme (under p line A)) x (value_at (map lexeme (pieces line)) p.c) (value_at (map lexeme (pieces line)) p.d)) (at-lexeme (pieces line) p.b)
      ∙ ap (λ x. call w (lexeme (under p line A)) (lexeme (under p line B)) x (value_at (map lexeme (pieces line)) p.d)) (at-lexeme (pieces line) p.c)
      ∙ ap (call w (lexeme (under p line A)) (lexeme (under p line B)) (lexeme (under p line C))) (at-lexeme (pieces line) p.d)
      ∙ call-is w (under p line)

  pub data Way : Type 0 where
    no_shape : (Shaped line → ⊥) → Way
    no_word : Shaped line → ((w : Word) → under_call p line ≡ name w → ⊥) → Way
    calls : (w : Word) → Calls p line w → Way

  way-shaped : Shaped line → Ways table (under_call p line) → Way
  way-shaped sh (inl x) = calls x.0 (sh, x.1)
  way-shaped sh (inr e) = no_word sh (not_named (under_call p line) e)

  way-by-shape : (b : Bool) → shaped line ≡ b → Way
  way-by-shape true e = way-shaped ((decides-shaped line).0 e) (way_in table (under_call p line))
  way-by-shape false e = no_shape (λ h. both_ways _ e ((decides-shaped line).1 h))

  pub way : Way
  way = way-by-shape (shaped line) refl

-- The four tests.

abbrev Stops : (a b c d : Bool) → Argument → Type 0
Stops a b c d A = a ≡ false
Stops a b c d B = (a ≡ true) × (b ≡ false)
Stops a b c d C = (a ≡ true) × (b ≡ true) × (c ≡ false)
Stops a b c d D = (a ≡ true) × (b ≡ true) × (c ≡ true) × (d ≡ false)

judged-all : (a b c d : Bool) (k : Call) → a ≡ true → b ≡ true → c ≡ true → d ≡ true → judged a b c d k ≡ Ok k
judged-all a b c d k ea eb ec ed = cond-true _ _ _ ea ∙ cond-true _ _ _ eb ∙ cond-true _ _ _ ec ∙ cond-true _ _ _ ed

judged-stops : (a b c d : Bool) (k : Call) (x : Argument) → Stops a b c d x → judged a b c d k ≡ Err (NoValue x)
judged-stops a b c d k A h = cond-false _ _ _ h
judged-stops a b c d k B h = cond-true _ _ _ h.0 ∙ cond-false _ _ _ h.1
judged-stops a b c d k C h = cond-true _ _ _ h.0 ∙ cond-true _ _ _ h.1 ∙ cond-false _ _ _ h.2
judged-stops a b c d k D h = cond-true _ _ _ h.0 ∙ cond-true _ _ _ h.1 ∙ cond-true _ _ _ h.2 ∙ cond-false _ _ _ h.3

-- every way that they come out
data Came (a b c d : Bool) (k : Call) : Type 0 where
  all : a ≡ true → b ≡ true → c ≡ true → d ≡ true → Came a b c d k
  stops : (x : Argument) → Stops a b c d x → Came a b c d k

came : (a b c d : Bool) (k : Call) → Came a b c d k
came true true true true k = all refl refl refl refl
came true true true false k = stops D (refl, refl, refl, refl)
came true true false d k = stops C (refl, refl, refl)
came true false c d k = stops B (refl, refl)
came false b c d k = stops A refl

abbrev at_position : ℕ → Argument
at_position zero = A
at_position (suc zero) = A
at_position (suc (suc zero)) = B
at_position (suc (suc (suc zero))) = C
at_position (suc (suc (suc (suc n)))) = D

position-back : (x : Argument) → at_position (argument_position x) ≡ x
position-back A = refl
position-back B = refl
position-back C = refl
position-back D = refl

same-argument : (x y : Argument) → argument_position x ≡ argument_position y → x ≡ y
same-argument x y e = sym (position-back x) ∙ ap at_position e ∙ position-back y

each : (P : Argument → Type 0) → P A → P B → P C → P D → (x : Argument) → P x
each P a b c d A = a
each P a b c d B = b
each P a b c d C = c
each P a b c d D = d

module _ (w : Word) (v : Argument → List ℕ) where
  abbrev test : Argument → Bool
  test x = takes (use_of w x) (v x)

  taken : (x : Argument) → test x ≡ true → Takes (use_of w x) (v x)
  taken x e = (decides-takes (use_of w x) (v x)).0 e

  tested : (x : Argument) → Takes (use_of w x) (v x) → test x ≡ true
  tested x h = (decides-takes (use_of w x) (v x)).1 h

  left : (x : Argument) → test x ≡ false → Takes (use_of w x) (v x) → ⊥
  left x e h = both_ways _ e (tested x h)

  abbrev ResultOf : Type 0
  ResultOf = Came (test A) (test B) (test C) (test D) (meant w v)

  stops_here : (x : Argument) → (Takes (use_of w x) (v x) → ⊥) → ((y : Argument) → argument_position y < argument_position x → Takes (use_of w y) (v y)) → Stops (test A) (test B) (test C) (test D) x
  stops_here A h before = not-from _ (decides-takes (use_of w A) (v A)) h
  stops_here B h before = (tested A (before A (omega arith)), not-from _ (decides-takes (use_of w B) (v B)) h)
  stops_here C h before = (tested A (before A (omega arith)), tested B (before B (omega arith)), not-from _ (decides-takes (use_of w C) (v C)) h)
  stops_here D h before = (tested A (before A (omega arith)), tested B (before B (omega arith)), tested C (before C (omega arith)), not-from _ (decides-takes (use_of w D) (v D)) h)

  stops-there : (x : Argument) → Stops (test A) (test B) (test C) (test D) x → Takes (use_of w x) (v x) → ⊥
  stops-there A h = left A h
  stops-there B h = left B h.1
  stops-there C h = left C h.2
  stops-there D h = left D h.3

  taken-before : (x : Argument) → Stops (test A) (test B) (test C) (test D) x → (y : Argument) → argument_position y < argument_position x → Takes (use_of w y) (v y)
  taken-before A h y below = absurd (none_below y below)
    where
      none_below : (y : Argument) → argument_position y < 1 → ⊥
      none_below A e = omega (arith, e)
      none_below B e = omega (arith, e)
      none_below C e = omega (arith, e)
      none_below D e = omega (arith, e)
  taken-before B h A below = taken A h.0
  taken-before B h B below = absurd (omega (arith, below))
  taken-before B h C below = absurd (omega (arith, below))
  taken-before B h D below = absurd (omega (arith, below))
  taken-before C h A below = taken A h.0
  taken-before C h B below = taken B h.1
  taken-before C h C below = absurd (omega (arith, below))
  taken-before C h D below = absurd (omega (arith, below))
  taken-before D h A below = taken A h.0
  taken-before D h B below = taken B h.1
  taken-before D h C below = taken C h.2
  taken-before D h D below = absurd (omega (arith, below))

  judge-all : ((x : Argument) → Takes (use_of w x) (v x)) → judge w v ≡ Ok (meant w v)
  judge-all h = judged-all (test A) (test B) (test C) (test D) (meant w v) (tested A (h A)) (tested B (h B)) (tested C (h C)) (tested D (h D))

  judge-stops : (x : Argument) → Stops (test A) (test B) (test C) (test D) x → judge w v ≡ Err (NoValue x)
  judge-stops x h = judged-stops (test A) (test B) (test C) (test D) (meant w v) x h

  judge-came : Came (test A) (test B) (test C) (test D) (meant w v)
  judge-came = came (test A) (test B) (test C) (test D) (meant w v)

-- The laws.

module _ (p : Columns) (line : List ℕ) where
  abbrev Given : Call → Type 0
  Given k = (w : Word) × Calls p line w × ((x : Argument) → Takes (use_of w x) (under p line x)) × (k ≡ meant w (under p line))

  call-came : (k : Call) (w : Word) → Calls p line w → parsed p line ≡ Ok k → Came (test w (under p line) A) (test w (under p line) B) (test w (under p line) C) (test w (under p line) D) (meant w (under p line)) → Given k
  call-came k w c e (all ea eb ec ed) =
      (w, c, each (λ x. Takes (use_of w x) (under p line x)) (taken w (under p line) A ea) (taken w (under p line) B eb) (taken w (under p line) C ec) (taken w (under p line) D ed), ap (granted k) (sym e ∙ gives-judged p line w c ∙ judged-all _ _ _ _ (meant w (under p line)) ea eb ec ed))
  call-came k w c e (stops x h) = absurd (omega (arith, ap num (sym e ∙ gives-judged p line w c ∙ judge-stops w (under p line) x h)))

  call-way : (k : Call) → parsed p line ≡ Ok k → Way p line → Given k
  call-way k e (no_shape h) = absurd (omega (arith, ap num (sym e ∙ parsed-shape p line h)))
  call-way k e (no_word sh h) = absurd (omega (arith, ap num (sym e ∙ gives-no-word p line sh h)))
  call-way k e (calls w c) = call-came k w c e (judge-came w (under p line))

  exactly : (k : Call) → CallExactly p line k
  exactly k = record {
    needs = λ e. call-way k e (way p line);
    suffices = λ w c h. gives-judged p line w c ∙ judge-all w (under p line) h;
  }

  -- what a called line gives is granted, or has number 44
  called-num : (w : Word) → Calls p line w → Came (test w (under p line) A) (test w (under p line) B) (test w (under p line) C) (test w (under p line) D) (meant w (under p line)) → (num (parsed p line) ≡ 0) ⊎ (num (parsed p line) ≡ 44)
  called-num w c (all ea eb ec ed) = inl (ap num (gives-judged p line w c ∙ judged-all _ _ _ _ (meant w (under p line)) ea eb ec ed))
  called-num w c (stops x h) = inr (ap num (gives-judged p line w c ∙ judge-stops w (under p line) x h))

  not-called : (n : ℕ) → num (parsed p line) ≡ n → 0 < n → n < 44 → (w : Word) → Calls p line w → ⊥
  not-called n e has below w c = ⊎_elim (λ z. omega (arith, z, e)) (λ z. omega (arith, z, e)) (called-num w c (judge-came w (under p line)))

  shape-way : parsed p line ≡ Err NoShape → Way p line → Shaped line → ⊥
  shape-way e (no_shape h) sh = h sh
  shape-way e (no_word sh' h) sh = omega (arith, ap num (sym e ∙ gives-no-word p line sh' h))
  shape-way e (calls w c) sh = not-called 42 (ap num e) (omega arith) (omega arith) w c

  word-way : parsed p line ≡ Err NoWord → Way p line → Shaped line × ((w : Word) → under_call p line ≡ name w → ⊥)
  word-way e (no_shape h) = absurd (omega (arith, ap num (sym e ∙ parsed-shape p line h)))
  word-way e (no_word sh h) = (sh, h)
  word-way e (calls w c) = absurd (not-called 43 (ap num e) (omega arith) (omega arith) w c)

  other_way : (n : ℕ) → num (parsed p line) ≡ n → 0 < n → n < 42 → Way p line → ⊥
  other_way n e has below (no_shape h) = omega (arith, e, ap num (parsed-shape p line h))
  other_way n e has below (no_word sh h) = omega (arith, e, ap num (gives-no-word p line sh h))
  other_way n e has below (calls w c) = not-called n e has (omega (arith, below)) w c

  in_order : InOrder p line
  in_order = record {
    shape = λ e. shape-way e (way p line);
    no_shape = parsed-shape p line;
    call_word = λ e. word-way e (way p line);
    no_word = gives-no-word p line;
    not_long = λ e. other_way 40 (ap num e) (omega arith) (omega arith) (way p line);
    not_names = λ e. other_way 41 (ap num e) (omega arith) (omega arith) (way p line);
  }

  module _ (x : Argument) where
    abbrev NamedBy : Type 0
    NamedBy = (w : Word) × Calls p line w × FirstNot p line w x

    first-came : (w : Word) → Calls p line w → parsed p line ≡ Err (NoValue x) → Came (test w (under p line) A) (test w (under p line) B) (test w (under p line) C) (test w (under p line) D) (meant w (under p line)) → NamedBy
    first-came w c e (all ea eb ec ed) = absurd (omega (arith, ap num (sym e ∙ gives-judged p line w c ∙ judged-all _ _ _ _ (meant w (under p line)) ea eb ec ed)))
    first-came w c e (stops y h) =
        let is : y ≡ x = same-argument y x (ap at (sym (judge-stops w (under p line) y h) ∙ sym (gives-judged p line w c) ∙ e)) in
        (w, c, subst (λ z. FirstNot p line w z) is (record { refuses = stops-there w (under p line) y h; before = taken-before w (under p line) y h }))

    first_way : parsed p line ≡ Err (NoValue x) → Way p line → NamedBy
    first_way e (no_shape h) = absurd (omega (arith, ap num (sym e ∙ parsed-shape p line h)))
    first_way e (no_word sh h) = absurd (omega (arith, ap num (sym e ∙ gives-no-word p line sh h)))
    first_way e (calls w c) = first-came w c e (judge-came w (under p line))

    column-named : ColumnNamed p line x
    column-named = record {
      names = λ e. first_way e (way p line);
      named = λ w c f. gives-judged p line w c ∙ judge-stops w (under p line) x (stops_here w (under p line) x f.refuses f.before);
    }

-- The same values in another order.

abbrev wide : List ℕ → ℕ
wide v = length v + 1

wide-grown : (x : ℕ) (ps : List (List ℕ)) → 0 < length ps → sum_by wide (grown x ps) ≡ suc (sum_by wide ps)
wide-grown x [] has = absurd (omega (arith, has))
wide-grown x (p ∷ ps) has =
    let more : sum_by wide (grown x (p ∷ ps)) ≡ (suc (length p) + 1) + sum_by wide ps = sum_by-cons wide (x ∷ p) ps in
    let was : sum_by wide (p ∷ ps) ≡ (length p + 1) + sum_by wide ps = sum_by-cons wide p ps in
    omega (arith, more, was)

wide_by : (b : Bool) (x : ℕ) (xs : List ℕ) → suc (length xs) ≡ sum_by wide (pieces xs) → suc (suc (length xs)) ≡ sum_by wide (cond b ([] ∷ pieces xs) (grown x (pieces xs)))
wide_by true x xs h =
    let more : sum_by wide (cond true ([] ∷ pieces xs) (grown x (pieces xs))) ≡ (0 + 1) + sum_by wide (pieces xs) = sum_by-cons wide [] (pieces xs) in
    omega (arith, h, more)
wide_by false x xs h = ap suc h ∙ sym (wide-grown x (pieces xs) (pieces_some xs))

wide-line : (line : List ℕ) → suc (length line) ≡ sum_by wide (pieces line)
wide-line [] = refl
wide-line (x ∷ xs) = wide_by (eqb x 32) x xs (wide-line xs)

full-all : (vs : List (List ℕ)) → Full vs → AllByRecursion (λ v. 0 < length v) vs
full-all [] h = h
full-all (v ∷ vs) h = (h.0, full-all vs h.1)

all-full : (vs : List (List ℕ)) → AllByRecursion (λ v. 0 < length v) vs → Full vs
all-full [] h = h
all-full (v ∷ vs) h = (h.0, all-full vs h.1)

shaped-moved : (line other : List ℕ) → IsPermutation (pieces line) (pieces other) → Shaped line → Shaped other
shaped-moved line other s sh =
    (omega (arith, sh.0, wide-line line, wide-line other, sum_by-IsPermutation wide (pieces line) (pieces other) s), length_permutation (pieces line) (pieces other) s ∙ sh.1, all-full (pieces other) (all_shuffled (λ v. 0 < length v) (pieces line) (pieces other) s (full-all (pieces line) sh.2)))

module _ (p q : Columns) (line other : List ℕ) (r : Reordered p line q other) where
  there : Shaped line → Shaped other
  there = shaped-moved line other r.values

  back : Shaped other → Shaped line
  back = shaped-moved other line (IsPermutation-sym (pieces line) (pieces other) r.values)

  reordered-way : Way p line → parsed p line ≡ parsed q other
  reordered-way (no_shape h) = parsed-shape p line h ∙ sym (parsed-shape q other (λ sh. h (back sh)))
  reordered-way (no_word sh h) = gives-no-word p line sh h ∙ sym (gives-no-word q other (there sh) (λ w e. h w (r.calls_alike ∙ e)))
  reordered-way (calls w c) =
      gives-judged p line w c
      ∙ ap (judge w) (λ i x. r.alike x i)
      ∙ sym (gives-judged q other w (there c.0, sym r.calls_alike ∙ c.1))

pub gives_call_exactly : GivesCallExactly
gives_call_exactly = exactly

pub faults_in_order : FaultsInOrder
faults_in_order = in_order

pub first_column_named : FirstColumnNamed
first_column_named = column-named

pub any_order_of_names : AnyOrderOfNames
any_order_of_names p q line other r = reordered-way p q line other r (way p line)
