-- A threaded list is followed: first to the header at its end, then over its slots again.
use Rattle.std.proofs.Common.{◌≡◌, ℕ, ◌+◌, ◌/◌, ◌%◌, ◌<◌, ◌≤◌, Bool, true, false, List, [], ◌∷◌, length, eqb, sym, ap, ◌∙◌, subst, inl, inr, ◌⊎◌, arith}
use Rattle.std.specs.List.{AllByRecursion as All}
use Rattle.std.proofs.lemmas.Bool.{eqb-true}
use Rattle.std.proofs.lemmas.Bool.Decides.{nat_tests}
use Rattle.space.specs.Weave.{inside, put, paint, Strand, Distinct}
use Rattle.space.proofs.Weaving.{pointwise, put_other, carry, apart}

-- on the way to the header: what is left of a list of so many slots once so many turns are taken
pub record Onward (look : ℕ → ℕ) (stop many word turns : ℕ) : Type 0 where
  pub rest : List ℕ
  pub leads : Strand look word rest stop
  pub room : length rest + turns ≡ many

-- so many turns led from the word to h, where the list ends
abbrev pub Comes : (ℕ → ℕ) → ℕ → ℕ → ℕ → Type 0
Comes look word h turns = (ss : List ℕ) (stop : ℕ) → Strand look word ss stop → stop % 2 ≡ 1 → length ss ≤ 16416 → (h ≡ stop) × (length ss ≡ turns)

module _ (look : ℕ → ℕ) (stop many : ℕ) (odd : stop % 2 ≡ 1) where
  pub onward_more : (word turns : ℕ) → (word % 2 ≡ 1 → ⊥) → Onward look stop many word turns → Onward look stop many (look (word / 2)) (turns + 1)
  onward_more word turns h r = go r.rest r.leads r.room
    where
      go : (ss : List ℕ) → Strand look word ss stop → length ss + turns ≡ many → Onward look stop many (look (word / 2)) (turns + 1)
      go [] z b = absurd (h (ap (λ x. x % 2) z ∙ odd))
      go (s ∷ ss) z b =
          let q : s ≡ word / 2 = omega (arith, z.0) in
          record { rest = ss; leads = subst (λ x. Strand look (look x) ss stop) q z.1; room = omega arith }

  -- the list ends, or has as many slots as there are addresses
  pub onward-end : (word turns : ℕ) → ((word % 2 ≡ 1) ⊎ ((turns ≡ 16416) × (many ≤ 16416))) → Onward look stop many word turns → (word ≡ stop) × (many ≡ turns)
  onward-end word turns h r = go r.rest r.leads r.room
    where
      go : (ss : List ℕ) → Strand look word ss stop → length ss + turns ≡ many → (word ≡ stop) × (many ≡ turns)
      go [] z b = (z, omega arith)
      go (s ∷ ss) z b = elim h [ inl o ↦ absurd (omega (arith, z.0, o)) | inr f ↦ absurd (omega (arith, f.0, f.1)) ]

pub comes_by : (look : ℕ → ℕ) (first at word turns : ℕ) (b : Bool) → at ≡ first → b ≡ eqb (word % 2) 1 → ((b ≡ true) ⊎ ((b ≡ false) × (turns ≡ 16416))) →
    ((stop : ℕ) (ss : List ℕ) → stop % 2 ≡ 1 → Strand look first ss stop → Onward look stop (length ss) word turns) → Comes look at word turns
comes_by look first at word turns b e t ends run = λ ss stop leads odd few.
    let r = run stop ss odd (subst (λ x. Strand look x ss stop) e leads) in
    onward-end look stop (length ss) odd word turns
    (elim ends [ inl h ↦ inl (eqb-true _ 1 (sym t ∙ h)) | inr h ↦ inr (h.1, few) ])
    r

-- over the slots again: what is left of the list, whose words are to become the goal
pub record Run (n v stop many : ℕ) (goal look : ℕ → ℕ) (word turn : ℕ) : Type 0 where
  pub rest : List ℕ
  pub leads : Strand look word rest stop
  pub once : Distinct rest
  pub within : All (λ s. inside n s ≡ true) rest
  pub room : length rest + turn ≡ many
  pub left : paint look rest v ≡ goal

module _ (n v stop many : ℕ) (goal : ℕ → ℕ) where
  pub run_more : (look next : ℕ → ℕ) (w i : ℕ) → i < many → (inside n (w / 2) ≡ true → next ≡ put look (w / 2) v) →
      Run n v stop many goal look w i → Run n v stop many goal next (look (w / 2)) (i + 1)
  run_more look next w i h e r = go r.rest r.leads r.once r.within r.room r.left
    where
      go : (ss : List ℕ) → Strand look w ss stop → Distinct ss → All (λ s. inside n s ≡ true) ss → length ss + i ≡ many → paint look ss v ≡ goal →
          Run n v stop many goal next (look (w / 2)) (i + 1)
      go [] z d a b f = absurd (omega arith)
      go (s ∷ ss) z d a b f =
          let q : w / 2 ≡ s = omega (arith, z.0) in
          let x : next ≡ put look s v = subst (λ y. inside n y ≡ true → next ≡ put look y v) q e a.0 in
          record {
            rest = ss;
            leads = carry look next (look s) (look (w / 2)) ss stop (ap look q) (λ k m. ap (λ f. f k) x ∙ put_other look s v k (apart k s ss m d.0)) z.1;
            once = d.1;
            within = a.1;
            room = omega arith;
            left = ap (λ f. paint f ss v) x ∙ pointwise (λ k. swap look s ss k) ∙ f;
          }
        where
          swap : (look : ℕ → ℕ) (s : ℕ) (ss : List ℕ) (k : ℕ) → paint (put look s v) ss v k ≡ paint look (s ∷ ss) v k
          swap look s ss k = grind (arith, nat_tests)

  pub run-all : (look : ℕ → ℕ) (w i : ℕ) → many ≤ i → Run n v stop many goal look w i → look ≡ goal
  run-all look w i h r = go r.rest r.room r.left
    where
      go : (ss : List ℕ) → length ss + i ≡ many → paint look ss v ≡ goal → look ≡ goal
      go [] b f = f
      go (s ∷ ss) b f = absurd (omega arith)
