-- What was taken stands in `into`.
use Rattle.std.proofs.Common.{◌≤◌, ◌-◌, length}
use Rattle.io_face.specs.Source.{Takes}
use Rattle.bland_run.specs.Input.{input_limit}
use Rattle.bland_run.proofs.input.read_input.Given as goal

abbrev pub invariant-loop : goal.invariant-loop
invariant-loop g l = record {
  within : length l.into.items ≤ input_limit;
  taken : Takes (g.I.Source.left l.initial.source) (g.I.Source.left l.source) l.into.items;
  count : g.I.Source.faults l.initial.source ≤ g.I.Source.faults l.source;
}

abbrev pub decreases-loop : goal.decreases-loop
decreases-loop g l = input_limit - length l.into.items
