-- No draw is before the first line.
use Rattle.std.proofs.Common.{◌∙◌, ap, arith}
use Rattle.generated_script.specs.ScriptNumbers.{ScriptNumbers}
use Rattle.generated_script.proofs.Moving.{first_state}
use Rattle.generated_script.proofs.script.ScriptLines.new.Goals as goal

pub invariant_of-result : goal.invariant_of-result
invariant_of-result c =
    (omega arith, ap (λ (n : ScriptNumbers). n.seed) c.recipe.view_is ∙ first_state c.args.recipe)
