-- What is left of the draws, by the map of some, is all draws by the map of one.
use Rattle.std.proofs.Common.{◌≡◌}
use Rattle.std.specs.Fn.{iterate}
use Rattle.generated_script.specs.Generator.{after}
use Rattle.generated_script.specs.Jump.{mapped}
use Rattle.generated_script.proofs.generator.Generator.after.Given as goal

abbrev pub invariant-loop-left : goal.invariant-loop-left
invariant-loop-left l =
    iterate (mapped l.map) l.left l.state ≡ after l.fn.draws l.fn.self.state

abbrev pub decreases-loop-left : goal.decreases-loop-left
decreases-loop-left l = l.left
