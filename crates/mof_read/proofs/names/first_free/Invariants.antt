use Rattle.std.proofs.Common.{◌≡◌, ◌+◌, ◌-◌, ◌*◌, ◌≤◌, length}
use Rattle.mof_read.specs.Names.{first_free}
use Rattle.mof_read.proofs.names.first_free.Given as goal

abbrev pub invariant-loop-tried : goal.invariant-loop-tried
invariant-loop-tried l = record {
  small : l.n ≤ l.number + l.tried * l.count;
  same : first_free l.taken.keys l.count (length l.taken.keys - l.tried) l.n
      ≡ first_free l.taken.keys l.count (length l.taken.keys) l.number;
}
