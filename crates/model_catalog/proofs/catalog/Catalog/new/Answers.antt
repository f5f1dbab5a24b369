use Rattle.std.proofs.Common.{[]}
use Rattle.std.specs.FinMap as map
use Rattle.user_model.specs.Model.{empty_model}
use Rattle.model_catalog.proofs.Empty.{empty_kept}
use Rattle.model_catalog.proofs.Exchanges.{kept_alike}
use Rattle.model_catalog.proofs.catalog.Catalog.new.Goals as goal

pub invariant_of-result : goal.invariant_of-result
invariant_of-result c =
    kept_alike empty_model _ [] _ map.empty _ map.empty _ 0
    (λ i. record {
      groups = c.new.ensures i;
      rows = c.new-2.ensures i;
      objective = empty_model.objective;
      next = empty_model.next;
    })
    c.new-3.ensures c.new-4.ensures c.new-5.ensures empty_kept
