use Rattle.std.proofs.Common.{arith}
use Rattle.model_catalog.proofs.Models.{kept_length}
use Rattle.model_catalog.proofs.catalog.Catalog.variable_count.Goals as goal

pub returns : goal.returns
returns c =
    rw (← c.self.view_is) (omega (
      arith,
      kept_length c.self.invariant.consistent c.self.invariant.index,
    ))
