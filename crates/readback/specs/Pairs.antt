-- What was stored is read back at each pair of a memory and a scheme.
use Rattle.std.specs.Prelude.{◌≡◌}
use Rattle.readback.specs.declared.Pairs.{Pairs}
use Rattle.readback.specs.Stored.{read_back}

pub record AllReadBack (pairs : Pairs) : Type 0 where
  pub words_under_prefix : pairs.words_under_prefix.items ≡ read_back
  pub words_under_mask : pairs.words_under_mask.items ≡ read_back
  pub bytes_under_prefix : pairs.bytes_under_prefix.items ≡ read_back
  pub bytes_under_mask : pairs.bytes_under_mask.items ≡ read_back
