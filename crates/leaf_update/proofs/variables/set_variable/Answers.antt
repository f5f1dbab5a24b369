use Rattle.std.proofs.Common.{arith, sym, ◌∙◌, true≢false}
use Rattle.leaf_update.proofs.variables.set_variable.Goals as goal
use Rattle.leaf_update.proofs.VariableSteps.{variable_added, variable_changed, variable_same}

pub returns-in_default : goal.returns-in_default
returns-in_default c = record {
  set =
      variable_added c.args.map.now c.args.solver.now.leaves c.requires.named
      c.in_default.ensures.one_to_one c.args.at.now c.args.var c.in_ok-i.i
      (sym c.in_default.ensures.value) c.in_ok-i.ensures.free
      (omega (arith, c.calls-few.ensures, c.calls-few.type_inv))
      c.put_var.new.self c.add_var.new.self.leaves c.in_ok-i.ensures.ok
      c.in_ok-put_var.ensures.ok c.in_ok-put_var.ensures.one_to_one
      c.in_ok-put_var.ensures.rows (λ j. (c.in_ok-put_var.ensures.exprs j, (c.in_ok-put_var.ensures.noted j, c.in_ok-put_var.ensures.kept j)));
  few = omega arith;
}

pub returns-then-is_kept : goal.returns-then-is_kept
returns-then-is_kept c = record {
  set =
      variable_same c.args.map.now c.args.solver.now.leaves c.requires.named
      c.in-Some.ensures.one_to_one c.args.at.now c.args.var c.in-Some.i
      (sym c.in-Some.ensures.value) (sym c.var.ensures ∙ c.is_kept.ensures.0 c.if-is_kept.true);
  few = omega arith;
}

pub returns : goal.returns
returns c = record {
  set =
      variable_changed c.args.map.now c.args.solver.now.leaves c.requires.named
      c.in-Some.ensures.one_to_one c.args.at.now c.args.var c.in-Some.i
      (sym c.in-Some.ensures.value)
      (λ e. true≢false (sym (c.is_kept.ensures.1 (c.var.ensures ∙ e)) ∙ c.if-is_kept.false))
      (omega (arith, c.calls-few.ensures, c.calls-few.type_inv))
      c.change_var.new.self.leaves c.change_var.ensures.changed;
  few = omega arith;
}
