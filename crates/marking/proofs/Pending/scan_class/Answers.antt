use Rattle.std.proofs.Common.{◌≡◌, ℕ, ◌+◌, ◌-◌, ◌/◌, ◌%◌, ◌<◌, ◌≤◌, Bool, true, false, eqb, List, length, min, sym, refl, ap, ◌∙◌, subst, arith}
use Rattle.std.proofs.lemmas.Bool.{eqb-true, eqb-false}
use Rattle.std.proofs.lemmas.Bool.Decides.{nat_tests}
use Rattle.scheme.specs.Meaning.{Meaning}
use Rattle.graph.specs.Places.{value_at}
use Rattle.space.specs.Weave.{view}
use Rattle.space.specs.Pass.{Plan}
use Rattle.space.specs.Standing.{Standing}
use Rattle.space.proofs.Sweeps.{steps}
use Rattle.marking.specs.declared.Pending.{Pending}
use Rattle.marking.specs.Marks.{NamedAt, Going, stage, also, marked}
use Rattle.marking.proofs.Steps.{onward, head-of, full, scan-start, scan-named, scan-no-value, scan-end}
use Rattle.marking.proofs.Pending.scan_class.Goals as goal

-- which words of a class hold values
no-first : (m : Meaning) (k r : ℕ) → eqb k 0 ≡ false → value_at m k r 1 ≡ false
no-first m k r ne = grind (arith, nat_tests)

second : (m : Meaning) (k r : ℕ) → eqb k 0 ≡ false → value_at m k r 2 ≡ true
second m k r ne = grind (arith, nat_tests)

third : (m : Meaning) (k r : ℕ) → eqb (k / 2) 1 ≡ true → value_at m k r 3 ≡ true
third m k r e = let big : 2 ≤ k = let h = eqb-true (k / 2) 1 e in omega (arith, h) in grind (arith, nat_tests)

no-third : (m : Meaning) (h r : ℕ) → eqb (h / 4 % 4) 0 ≡ false → eqb (h / 4 % 4 / 2) 1 ≡ false → value_at m (h / 4 % 4) r 3 ≡ false
no-third m h r ne e =
    let a = eqb-false (h / 4 % 4) 0 ne in
    let b = eqb-false (h / 4 % 4 / 2) 1 e in
    let one : h / 4 % 4 ≡ 1 = omega (arith, a, b) in
    ap (λ (k : ℕ). value_at m k r 3) one

no-more : (m : Meaning) (k r i : ℕ) → eqb k 0 ≡ false → 4 ≤ i → value_at m k r i ≡ false
no-more m k r i ne l = grind (arith, nat_tests)

-- the class at p is scanned, of which the words 2 and 3 are named
module _ (m : Meaning) (P : Plan) (limit : ℕ) (so : Standing m P limit) (roots : ℕ) (todo : ℕ → Bool) (turns rounds p n : ℕ) (ws hs : List ℕ) (e : P.n ≡ length ws)
    (on : marked P (view ws hs) p ≡ true) (header : ℕ) (eh : header ≡ view ws hs p) (ne : eqb (header / 4 % 4) 0 ≡ false) (some : 3 < header / 16) (en : n ≡ min (length ws) 16384)
    (q : Pending) (go : Going P limit (stage roots (also P p todo) turns rounds) (view ws hs) q) where
  abbrev kind : ℕ
  kind = header / 4 % 4

  hp : P.head p ≡ true
  hp = head-of _ P limit so (view ws hs) p on

  size : header / 16 ≡ (so.object p hp).size
  size = ap (λ (w : ℕ). w / 16) (eh ∙ full _ P limit so (view ws hs) go.is p on) ∙ (so.object p hp).here.big

  within : p + 3 < n
  within = let o = so.object p hp in omega (arith, size, e, o.ends, so.small, so.holds, en, some)

  abbrev Onward : ℕ → (ℕ → ℕ) → Pending → Type 0
  Onward i look r = Going P limit (stage roots (onward P i p todo) turns rounds) look r

  no-value : (i : ℕ) (look : ℕ → ℕ) (r : Pending) → 0 < i → i < header / 16 → value_at m kind 0 i ≡ false → Onward i look r → Onward (i + 1) look r
  no-value i look r lo hi none now =
      scan-no-value m P limit so roots todo turns rounds p hp (view ws hs) go.is on (go.sound p on) header kind 0 eh refl (view ws hs) (λ a l. refl) (λ z. absurd (eqb-false _ 0 ne z)) i lo hi look r now none

  named : (i : ℕ) (xs ys vs gs : List ℕ) (r t : Pending) → P.n ≡ length xs → 0 < i → i < 4 → value_at m kind 0 i ≡ true → NamedAt n xs ys r (p + i) vs gs t → Onward i (view xs ys) r → Onward (i + 1) (view vs gs) t
  named i xs ys vs gs r t ex lo hi val at now =
      scan-named m P limit so roots todo turns rounds p hp (view ws hs) go.is on (go.sound p on) header kind 0 eh refl (view ws hs) (λ a l. refl) (λ z. absurd (eqb-false _ 0 ne z)) i lo (omega (arith, hi, some))
      (view xs ys) r now xs ys vs gs t n refl ex val (omega (arith, within, hi)) (omega (arith, within, hi, en)) at

  -- behind the word 3
  closed : (look : ℕ → ℕ) (r : Pending) → Onward 4 look r → Going P limit (stage roots todo turns rounds) look r
  closed look r now =
      let e : 4 + (header / 16 - 4) ≡ header / 16 = omega (arith, some) in
      scan-end m P limit so roots todo turns rounds p hp (header / 16) look r (omega (arith, size))
      (subst (λ i. Onward i look r) e (steps (λ i. Onward i look r) (header / 16 - 4) 4 (λ k l h. no-value k look r (omega (arith, l)) (omega (arith, h, some)) (no-more m kind 0 k ne l)) now))

  opened : (vs gs : List ℕ) (r : Pending) → NamedAt n ws hs q (p + 2) vs gs r → Onward 3 (view vs gs) r
  opened vs gs r at =
      named 2 ws hs vs gs q r e (omega arith) (omega arith) (second m kind 0 ne) at
      (no-value 1 (view ws hs) q (omega arith) (omega (arith, some)) (no-first m kind 0 ne) (scan-start m P limit so roots todo turns rounds p hp (view ws hs) q go))

  map-scanned : (vs gs xs ys : List ℕ) (r t : Pending) → P.n ≡ length vs → eqb (kind / 2) 1 ≡ true → NamedAt n ws hs q (p + 2) vs gs r → NamedAt n vs gs r (p + 3) xs ys t →
      Going P limit (stage roots todo turns rounds) (view xs ys) t
  map-scanned vs gs xs ys r t ev is at2 at3 = closed (view xs ys) t (named 3 vs gs xs ys r t ev (omega arith) (omega arith) (third m kind 0 is) at3 (opened vs gs r at2))

  layout-scanned : (vs gs : List ℕ) (r : Pending) → eqb (kind / 2) 1 ≡ false → NamedAt n ws hs q (p + 2) vs gs r → Going P limit (stage roots todo turns rounds) (view vs gs) r
  layout-scanned vs gs r not at2 = closed (view vs gs) r (no-value 3 (view vs gs) r (omega arith) (omega (arith, some)) (no-third m header 0 ne not) (opened vs gs r at2))

pub returns-then-is_map-clause-scanned : goal.returns-then-is_map-clause-scanned
returns-then-is_map-clause-scanned g c = λ m P limit roots todo turns rounds so e on eh go.
    map-scanned m P limit so roots todo turns rounds c.args.place c.args.limit _ _ e on c.args.header eh c.requires.kind c.requires.some c.requires.limit c.args.self.now go _ _ _ _ _ _
    (e ∙ sym c.mark_named.ensures.kept.length) (sym c.is_map.ensures ∙ c.if-is_map.true) c.mark_named.ensures.named c.mark_named-then-is_map.ensures.named

pub returns-else-is_map-clause-scanned : goal.returns-else-is_map-clause-scanned
returns-else-is_map-clause-scanned g c = λ m P limit roots todo turns rounds so e on eh go.
    layout-scanned m P limit so roots todo turns rounds c.args.place c.args.limit _ _ e on c.args.header eh c.requires.kind c.requires.some c.requires.limit c.args.self.now go _ _ _
    (sym c.is_map.ensures ∙ c.if-is_map.false) c.mark_named.ensures.named
