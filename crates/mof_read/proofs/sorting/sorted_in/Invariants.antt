use Rattle.std.proofs.Common.{length, ◌+◌, ◌≡◌}
use Rattle.std.specs.Vec.Iter.{into_iter_items}
use Rattle.mof_read.specs.Edits.{nothing, sorted_so_far, with_constraints}
use Rattle.mof_read.proofs.sorting.sorted_in.Given as goal

abbrev pub invariant-loop-constraint : goal.invariant-loop-constraint
invariant-loop-constraint l = record {
  counted : l.number + length (into_iter_items l.constraint-iterator) ≡ l.count;
  same : with_constraints l.taken.keys l.count l.number (sorted_so_far l.sorting)
      (into_iter_items l.constraint-iterator)
      ≡ with_constraints l.taken.keys l.count 0 nothing l.fn.constraints.items;
}
