use Rattle.aff_core.specs.Address.{Address}
use Rattle.lazy_bridge.proofs.Names.{AreAlike}
use Rattle.lazy_bridge.specs.Mentioned.{row_names}
use Rattle.lazy_bridge.proofs.alike.rows_alike.Given as goal

abbrev pub invariant-loop-place : goal.invariant-loop-place
invariant-loop-place l =
    AreAlike {K = Address × Address} (λ r k. row_names r.now k.0 k.1) l.one l.other l.place
