use Rattle.std.proofs.Common.{◌≡◌, ℕ, ◌+◌, ◌-◌, ◌<◌, ◌≤◌, ◌⊎◌, List, ◌++◌, length, get_or, set, take, drop, ap, ◌∙◌, sym, inl, inr, arith, length-set}
use Rattle.std.proofs.lemmas.List.{places, get_or-set_same, get_or-set_other}
use Rattle.std.proofs.lemmas.Bool.{cases_lt, cases_eq, cond-true, cond-false}
use Rattle.std.proofs.lemmas.Bool.Decides.{nat_tests}
use Rattle.memory.specs.Ranges.{cleared}
use Rattle.memory.proofs.Ranges.{inside, outside}
use Rattle.memory.proofs.words.RefMutSliceU32Memory.write_fresh.Goals as goal

-- the words of `part` stand in place of those from p up to an end
module _ (ws part : List ℕ) (p end f s k : ℕ) where
  without : p + 2 ≤ end → end ≤ length ws → length part ≡ end - p → (k < p) ⊎ (end ≤ k) →
      get_or (take p ws ++ (part ++ drop (end - p) (drop p ws))) k 0 ≡ cleared (set (set ws p f) (p + 1) s) (p + 2) end k
  without a h l o = grind (arith, nat_tests, places)

  part-at : p + 2 ≤ end → end ≤ length ws → length part ≡ end - p → p ≤ k → k < end →
      get_or (take p ws ++ (part ++ drop (end - p) (drop p ws))) k 0 ≡ get_or part (k - p) 0
  part-at a h l o i = grind (arith, places)

module _ (ws : List ℕ) (p end f s : ℕ) (long : p + 2 ≤ end) (lies : end ≤ length ws) where
  first-at : cleared (set (set ws p f) (p + 1) s) (p + 2) end p ≡ f
  first-at =
      cond-false _ _ _ (outside (p + 2) end p (inl (omega arith))) ∙ get_or-set_other (set ws p f) (p + 1) p s 0 (omega arith) ∙ get_or-set_same ws p f 0 (omega arith)

  second-at : cleared (set (set ws p f) (p + 1) s) (p + 2) end (p + 1) ≡ s
  second-at =
      cond-false _ _ _ (outside (p + 2) end (p + 1) (inl (omega arith))) ∙ get_or-set_same (set ws p f) (p + 1) s 0 (omega (arith, length-set ws p f))

  rest-at : (k : ℕ) → p + 2 ≤ k → k < end → cleared (set (set ws p f) (p + 1) s) (p + 2) end k ≡ 0
  rest-at k o i = cond-true _ _ _ (inside (p + 2) end k o i)

  within : (part : List ℕ) (k : ℕ) → p ≤ k → k < end → get_or part 0 0 ≡ f → get_or part 1 0 ≡ s → ((j : ℕ) → 2 ≤ j → get_or part j 0 ≡ 0) →
      get_or part (k - p) 0 ≡ cleared (set (set ws p f) (p + 1) s) (p + 2) end k
  within part k o i first second rest =
      elim (cases_eq k p) [
        | inl e ↦
            let z : k - p ≡ 0 = omega arith in
            ap (λ j. get_or part j 0) z ∙ first ∙ sym first-at ∙ ap (λ j. cleared (set (set ws p f) (p + 1) s) (p + 2) end j) (sym e)
        | inr n ↦ elim (cases_eq k (p + 1)) [
          | inl e ↦
              let z : k - p ≡ 1 = omega arith in
              ap (λ j. get_or part j 0) z ∙ second ∙ sym second-at ∙ ap (λ j. cleared (set (set ws p f) (p + 1) s) (p + 2) end j) (sym e)
          | inr m ↦ rest (k - p) (omega arith) ∙ sym (rest-at k (omega arith) i)
        ]
      ]

pub returns-then-end-self-clause-words : goal.returns-then-end-self-clause-words
returns-then-end-self-clause-words c = λ k.
    let ws = c.args.self.now.now in
    let part = c.make_fresh.new.words in
    let p = c.args.place in
    let end = c.args.end in
    let f = c.args.first in
    let s = c.args.second in
    let all = c.make_fresh.ensures in
    elim (cases_lt k p) [
      | inl i ↦ without ws part p end f s k (omega arith) (omega arith) (omega arith) (inl i)
      | inr o ↦ elim (cases_lt k end) [
        | inl i ↦
            part-at ws part p end f s k (omega arith) (omega arith) (omega arith) o i
            ∙ within ws p end f s (omega arith) (omega arith) part k o i all.first all.second all.rest
        | inr q ↦ without ws part p end f s k (omega arith) (omega arith) (omega arith) (inr q)
      ]
    ]
