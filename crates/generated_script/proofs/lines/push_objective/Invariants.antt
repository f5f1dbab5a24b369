-- The terms of the variables so far were appended.
use Rattle.std.proofs.Common.{◌≡◌, ◌++◌}
use Rattle.std.specs.List.{flat_map, range_with_len}
use Rattle.generated_script.specs.Generator.{after}
use Rattle.generated_script.specs.Script.{cost_term}
use Rattle.generated_script.proofs.lines.push_objective.Given as goal

abbrev pub invariant-loop-place : goal.invariant-loop-place
invariant-loop-place l = record {
  text : l.line.items ≡ l.initial.line.items
      ++ flat_map (cost_term l.initial.generator.state) (range_with_len 0 l.place);
  moved : l.generator.state ≡ after l.place l.initial.generator.state;
}
