-- A share of the words in a hundred, as a whole number.
use Rattle.std.specs.Prelude.{◌≡◌, ℕ, ◌+◌, ◌*◌, ◌<◌, ◌≤◌}
use Rattle.graph.specs.Step.{percent}

-- of all whole numbers p is nearest to the live words in a hundred of W, and of two that are equally near it is the larger
pub record NearestPercent (live W p : ℕ) : Type 0 where
  pub not_above : 2 * (p * W) ≤ 200 * live + W
  pub not_below : 200 * live < 2 * (p * W) + W

-- what a heap of W words of which so many are live tells as its fill: the nearest whole number, and 0 where it has no words
pub record FillOf (live W p : ℕ) : Type 0 where
  pub nearest : 0 < W → NearestPercent live W p
  pub none : W ≡ 0 → p ≡ 0

-- fill tells that number, and there is no other
abbrev pub FillIsNearest : Type 0
FillIsNearest = (live W : ℕ) → FillOf live W (percent live W) × ((p : ℕ) → FillOf live W p → p ≡ percent live W)
