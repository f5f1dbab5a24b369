use Rattle.std.proofs.Common.{arith, sym}
use Rattle.leaf_update.proofs.variables.drop_variable.Goals as goal
use Rattle.leaf_update.proofs.VariableSteps.{variable_dropped}

pub returns : goal.returns
returns c = record {
  dropped =
      variable_dropped c.args.map.now c.args.solver.now.leaves c.requires.named
      c.var_at-one_to_one.ensures.one_to_one c.args.at.now c.in-Some.i
      (sym c.in-Some.ensures.index)
      c.requires.nobody (omega (arith, c.calls-few.ensures, c.calls-few.type_inv))
      c.drop_var.new.self c.remove_var.new.self.leaves c.remove_var.ensures.removed
      c.in-Some.ensures.removed c.in-Some.ensures.rows (λ j. (c.in-Some.ensures.exprs j, (c.in-Some.ensures.noted j, c.in-Some.ensures.kept j)));
}
