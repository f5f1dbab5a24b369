use Rattle.std.specs.Prelude.{◌≡◌, ◌+◌, ◌-◌, ◌*◌, ◌≤◌}
use Rattle.relaxed_model.specs.Relaxed.{free_number}
use Rattle.relaxation.proofs.names.free_name.Given as goal

abbrev pub invariant-loop-tried : goal.invariant-loop-tried
invariant-loop-tried l = record {
  small : l.n ≤ l.first + l.tried * l.step;
  same : free_number l.model.model l.step (l.tries - l.tried) l.n
      ≡ free_number l.model.model l.step l.tries l.first;
}
