-- A heap as a caller in C keeps it: what was put aside, and which scheme it goes by.
use Rattle.std.specs.Prelude.{◌≡◌, ℕ, List, ℤ, ◌≢◌}
use Rattle.scheme.specs.Meaning.{Meaning, prefix, mask}
use Rattle.clib.specs.declared.State.{State}
use Rattle.clib.specs.Errors.{no_scheme}
use Rattle.clib.specs.Kept.{Effect}

-- 0 is PREFIX and 1 is MASK; under any other number nothing is done
pub record Under (scheme : ℕ) (done : Meaning → Type 0) (untouched : Type 0) (r : ℤ) : Type 0 where
  pub by_prefix : scheme ≡ 0 → done prefix
  pub by_mask : scheme ≡ 1 → done mask
  pub by_none : (scheme ≢ 0) → (scheme ≢ 1) → (r ≡ no_scheme) × untouched

-- A call on the words ws and the state s leaves the words vs and the state t. The words are the caller's own array, before and after.
abbrev pub Turn : Effect → List ℕ → State → List ℕ → State → ℤ → Type 0
Turn P ws s vs t r = Under s.scheme (λ m. P m ws s.heap vs t.heap r × (t.scheme ≡ s.scheme)) ((t ≡ s) × (vs ≡ ws)) r
