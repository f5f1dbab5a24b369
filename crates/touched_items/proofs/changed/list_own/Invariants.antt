use Rattle.std.proofs.Common.{◌≡◌, ◌++◌, map, take}
use Rattle.user_model.specs.Model.{variable_address}
use Rattle.touched_items.proofs.changed.list_own.Given as goal

abbrev pub invariant-loop-var : goal.invariant-loop-var
invariant-loop-var l =
    l.vars.items ≡ l.fn.vars.items ++ map (λ v. variable_address v.number) (take l.var-index l.own)
