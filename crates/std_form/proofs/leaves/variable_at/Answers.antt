use Rattle.std.proofs.Common.{◌∙◌, ap}
use Rattle.std.specs.Option.{option_map}
use Rattle.std_form.proofs.leaves.variable_at.Goals as goal

pub returns-in_err-var : goal.returns-in_err-var
returns-in_err-var c =
    c.from_residual.ensures ∙ ap (option_map (λ x. (c.args.i, x))) c.in_err-var.ensures

pub returns : goal.returns
returns c = ap (option_map (λ x. (c.args.i, x))) c.in_ok-var.ensures
