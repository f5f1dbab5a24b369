use Rattle.item_map.proofs.RootLaws.{none_each}
use Rattle.item_map.proofs.roots.ByRoot.new.Goals as goal

pub returns : goal.returns
returns g c =
    none_each (record {
      variables = c.new.result;
      groups = c.new-2.result;
      rows = c.new-3.result;
      objectives = c.new-4.result;
    }) c.new.ensures c.new-2.ensures c.new-3.ensures c.new-4.ensures
