-- A step that may stop, and what follows it.
use Rattle.std.specs.Prelude.{Ok, Err, Result}

abbrev pub and_then : {X Y E : Type 0} → Result X E → (X → Result Y E) → Result Y E
and_then (Ok x) k = k x
and_then (Err e) k = Err e
