-- What is read of a heap at rest.
use Rattle.std.proofs.Common.{◌≡◌, ℕ, suc, ◌+◌, ◌-◌, ◌/◌, ◌%◌, ◌<◌, ◌≤◌, Bool, true, false, List, [], length, get_or, take, set, ℤ, Ok, Err, sym, refl, ap, ◌∙◌, subst, inl, inr, add-zero, arith}
use Rattle.std.proofs.lemmas.Bool.{cases_Bool, cond-true, cond-false}
use Rattle.std.proofs.lemmas.List.{get_or-take, get_or-map, map-set}
use Rattle.graph.specs.Graph.{Value, empty, number, object, Object, a_record, a_layout, a_map, Graph, held, object_at, size, is_record}
use Rattle.scheme.specs.Meaning.{Meaning}
use Rattle.graph.specs.Reach.{total, words_of}
use Rattle.graph.specs.Step.{object_kind, kind_of}
use Rattle.graph.specs.Words.{record_size, class_size, place_of, reference, header, header_kind, value_word, words_at, image, handle_words}
use Rattle.graph.specs.Laws.{Fitting}
use Rattle.graph.specs.Rests.{Rests, state, Does}
use Rattle.graph.specs.declared.Call.{Call}
use Rattle.graph.specs.declared.Refusal.{Refusal}
use Rattle.graph.specs.Step.{row, Outcome, outcome, graph_after, after}
use Rattle.graph.specs.Advance.{standing_by, standing_after, standing_refused}
use Rattle.graph.specs.Graph.{hold}
use Rattle.graph.proofs.Stays.{stays-sound}
use Rattle.graph.proofs.Piles.{total-le}
use Rattle.graph.proofs.Frame.{total-sides, size-pos, read_word}
use Rattle.graph.proofs.Sound.{stands-below, record-kind}
use Rattle.graph.proofs.Laws.{record-counts, class-counts, numbers-encoded, references-read, headers-read}

-- a standing object ends within the W words
pub place-fits : (W : ℕ) (g : Graph) (s : List Bool) (q : ℕ) → words_of g s ≤ W → q < length g.objects → get_or s q false ≡ true → place_of W g s q + size (object_at g q) ≤ W
place-fits W g s q fits lt here =
    let sides = total-sides g s (length g.objects) in
    elim (cases_Bool (is_record (object_at g q))) [
      | inl e ↦
          let p : place_of W g s q ≡ total (record_size g s) q = cond-true _ _ _ e in
          omega (arith, p, sides, fits, record-counts W g s q here e, total-le (record_size g s) (suc q) (length g.objects) lt)
      | inr e ↦
          let p : place_of W g s q ≡ W - total (class_size g s) (suc q) = cond-false _ _ _ e in
          omega (arith, p, sides, fits, class-counts W g s q here e, total-le (class_size g s) (suc q) (length g.objects) lt)
    ]

module _ (m : Meaning) (W : ℕ) (g : Graph) (s : List Bool) (words handles : List ℕ) (rests : Rests m W g s words handles) where
  pub read-rests : (q i : ℕ) → get_or s q false ≡ true → i < size (object_at g q) → get_or words (place_of W g s q + i) 0 ≡ get_or (words_at W g s [] q) i 0
  read-rests q i here l =
      let lt : q < length g.objects = omega (arith, stands-below s q here, rests.sound.as_long) in
      let fits = rests.sound.fits in
      let in-W : place_of W g s q + i < W = omega (arith, place-fits W g s q fits lt here, l) in
      sym (get_or-take W words (place_of W g s q + i) 0 in-W)
      ∙ ap (λ (xs : List ℕ). get_or xs (place_of W g s q + i) 0) rests.memory
      ∙ read_word W g s [] fits q lt here i l

  pub read-header : (q : ℕ) → get_or s q false ≡ true → get_or words (place_of W g s q) 0 ≡ header false (header_kind (object_at g q)) (size (object_at g q))
  read-header q here = ap (λ (p : ℕ). get_or words p 0) (sym (add-zero (place_of W g s q))) ∙ read-rests q 0 here (size-pos (object_at g q))

  pub read-handle : (h : ℕ) → h < 32 → get_or handles h 0 ≡ value_word (reference W g s) (held g h)
  read-handle h l =
      ap (λ (xs : List ℕ). get_or xs h 0) rests.handle_words_are
      ∙ get_or-map (value_word (reference W g s)) g.handles h empty 0 (omega (arith, l, rests.sound.handles_32))

  pub held_fits : (h : ℕ) (v : Value) → held g h ≡ v → Fitting s v
  held_fits h empty e = tt
  held_fits h (number n) e = rests.sound.held_numbers h n e
  held_fits h (object q) e = rests.sound.held_stands h q e

  pub kind-numbered : (o : Object) → header_kind o + 2 ≡ object_kind o
  kind-numbered (a_record l cells) = refl
  kind-numbered (a_layout c n) = refl
  kind-numbered (a_map r n p) = refl

  pub kind-below : (o : Object) → header_kind o < 4
  kind-below (a_record l cells) = omega arith
  kind-below (a_layout c n) = omega arith
  kind-below (a_map r n p) = omega arith

  -- the kind of a value, from its word and the header that it leads to
  pub record Told (v : Value) (w : ℕ) : Type 0 where
    pub when_0 : w % 4 ≡ 0 → kind_of g v ≡ 0
    pub when_1 : w % 4 ≡ 1 → kind_of g v ≡ 1
    pub when_2 : w % 4 ≡ 2 → kind_of g v ≡ 2
    pub when_3 : w % 4 ≡ 3 → kind_of g v ≡ get_or words (w / 4) 0 / 4 % 4 + 2

  pub tell-kind : (v : Value) → Fitting s v → Told v (value_word (reference W g s) v)
  tell-kind empty f = record { when_0 = λ e. refl; when_1 = λ e. absurd (omega arith); when_2 = λ e. absurd (omega arith); when_3 = λ e. absurd (omega arith) }
  tell-kind (number n) f =
      let t = (numbers-encoded n f).tag in
      record { when_0 = λ e. absurd (omega arith); when_1 = λ e. refl; when_2 = λ e. absurd (omega arith); when_3 = λ e. absurd (omega arith) }
  tell-kind (object q) f =
      let r = references-read W g s q in
      let o = object_at g q in
      elim (cases_Bool (is_record o)) [
        | inl e ↦
            let t : reference W g s q % 4 ≡ 2 = r.tag ∙ cond-true _ _ _ e in
            record { when_0 = λ z. absurd (omega arith); when_1 = λ z. absurd (omega arith); when_2 = λ z. record-kind o e; when_3 = λ z. absurd (omega arith) }
        | inr e ↦
            let t : reference W g s q % 4 ≡ 3 = r.tag ∙ cond-false _ _ _ e in
            record {
              when_0 = λ z. absurd (omega arith);
              when_1 = λ z. absurd (omega arith);
              when_2 = λ z. absurd (omega arith);
              when_3 = λ z.
                  sym
                  (ap (λ (p : ℕ). get_or words p 0 / 4 % 4 + 2) r.place
                  ∙ ap (λ (h : ℕ). h / 4 % 4 + 2) (read-header q f)
                  ∙ ap (λ (k : ℕ). k + 2) (headers-read false (header_kind o) (size o) (kind-below o)).kinds
                  ∙ kind-numbered o);
            }
      ]

  pub tell-held : (h : ℕ) → h ≤ 31 → Told (held g h) (get_or handles h 0)
  tell-held h l = subst (λ (w : ℕ). Told (held g h) w) (sym (read-handle h (omega arith))) (tell-kind (held g h) (held_fits h (held g h) refl))

-- What a call does to a heap at rest, from its outcome.

module _ (m : Meaning) (W : ℕ) (c : Call) (g : Graph) (s : List Bool) (words handles : List ℕ) (before : Rests m W g s words handles) where
  -- where it is granted
  pub does-granted : (n : ℤ) (words' handles' : List ℕ) → outcome m W g c ≡ Ok n → take W words' ≡ image W (after g (row m W g c).1) (standing_after W g s (row m W g c).1) [] → handles' ≡ handle_words W (after g (row m W g c).1) (standing_after W g s (row m W g c).1) → Does m W c g s (Ok n) words' handles'
  does-granted n words' handles' e mem han =
      let act = (row m W g c).1 in
      record {
        told = sym e;
        rests =
            record {
              sound = (stays-sound m W).1 c (state g s) before.sound;
              memory = mem ∙ ap (λ (out : Outcome). image W (graph_after out g act) (standing_by W g s out act) []) (sym e);
              handle_words_are = han ∙ ap (λ (out : Outcome). handle_words W (graph_after out g act) (standing_by W g s out act)) (sym e);
            };
      }

  -- where it is refused
  pub does-refused : (r : Refusal) (words' handles' : List ℕ) → outcome m W g c ≡ Err r → take W words' ≡ image W g (standing_refused W g s r) [] → handles' ≡ handle_words W g (standing_refused W g s r) → Does m W c g s (Err r) words' handles'
  does-refused r words' handles' e mem han =
      let act = (row m W g c).1 in
      record {
        told = sym e;
        rests =
            record {
              sound = (stays-sound m W).1 c (state g s) before.sound;
              memory = mem ∙ ap (λ (out : Outcome). image W (graph_after out g act) (standing_by W g s out act) []) (sym e);
              handle_words_are = han ∙ ap (λ (out : Outcome). handle_words W (graph_after out g act) (standing_by W g s out act)) (sym e);
            };
      }

-- a handle's word written
pub write-handle : (W : ℕ) (g : Graph) (s : List Bool) (h : ℕ) (v : Value) → set (handle_words W g s) h (value_word (reference W g s) v) ≡ handle_words W (hold g h v) s
write-handle W g s h v = sym (map-set (value_word (reference W g s)) g.handles h v)
