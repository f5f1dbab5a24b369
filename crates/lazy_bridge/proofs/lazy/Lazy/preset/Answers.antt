use Rattle.std.proofs.Common.{subst, sym}
use Rattle.std.specs.Prelude.{IsTrue}
use Rattle.lazy_bridge.specs.Native.{supports_native}
use Rattle.lazy_bridge.proofs.lazy.Lazy.preset.Goals as goal

pub invariant_of-self : goal.invariant_of-self
invariant_of-self g c = (
  subst (λ t. IsTrue (supports_native t)) (sym c.choose.ensures.table) c.requires.native,
  c.self.invariant.1,
)
