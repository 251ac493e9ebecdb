-- What every pass leaves alone of a space.
use Rattle.std.specs.Prelude.{ℕ, List}
use Rattle.space.specs.declared.Space.{Space}
use Rattle.space.specs.Weave.{Kept}

abbrev pub KeptIn : {M : Type 0} → (M → List ℕ) → Space M → Space M → Type 0
KeptIn words old new = Kept (words old.memory) old.handles (words new.memory) new.handles
