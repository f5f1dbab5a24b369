use Rattle.std.specs.Prelude.{◌≡◌, take}
use Rattle.user_model.proofs.group.copy_vars.Given as goal

abbrev pub invariant-loop-var : goal.invariant-loop-var
invariant-loop-var l = l.copies.items ≡ take l.var-index l.vars
