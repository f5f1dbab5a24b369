use Rattle.std.proofs.Common.{◌≡◌, ◌++◌}
use Rattle.std.specs.Vec.Iter.{into_iter_items}
use Rattle.mof_read.specs.Names.{all_names, with_own_names}
use Rattle.mof_read.proofs.names.NamedConstraints.add_all.Given as goal

abbrev pub invariant-loop-constraint : goal.invariant-loop-constraint
invariant-loop-constraint l = record {
  same : l.self.constraints.items
      ++ with_own_names l.self.taken.keys (into_iter_items l.constraint-iterator)
      ≡ l.fn.self.constraints.items
      ++ with_own_names l.fn.self.taken.keys l.fn.constraints.items;
  taken : all_names l.self.taken.keys (into_iter_items l.constraint-iterator)
      ≡ all_names l.fn.self.taken.keys l.fn.constraints.items;
}
