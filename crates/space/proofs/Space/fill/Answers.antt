use Rattle.std.proofs.Common.{◌≡◌, ℕ, ◌+◌, ◌-◌, ◌<◌, set, ap, refl, subst, arith}
use Rattle.space.specs.Slots.{There}
use Rattle.space.proofs.Stores.{stored-handle}
use Rattle.space.proofs.Space.fill.Goals as goal

pub returns-in-Handle : goal.returns-in-Handle
returns-in-Handle g c =
    let h = c.in-Handle.h in
    let there : h < 32 = subst (There _) c.in-Handle.is c.requires in
    let is : h ≡ 16384 + h - 16384 = omega arith in
    rw c.in-Handle.is (stored-handle _ _ _ _ _ _ (omega arith) (omega arith) (omega arith) refl (ap (λ (i : ℕ). set c.args.self.now.handles i c.args.word) is))
