use Rattle.std.proofs.Common.{◌∙◌, ap}
use Rattle.std.specs.Option.{option_map}
use Rattle.std_form.specs.Borrowed.{row_in}
use Rattle.std_form.proofs.leaves.row_at.Goals as goal

pub returns-in_err-row : goal.returns-in_err-row
returns-in_err-row c =
    ap (option_map row_in) c.from_residual.ensures
    ∙ ap (option_map (λ x. (c.args.i, x))) c.in_err-row.ensures

pub returns : goal.returns
returns c = ap (option_map (λ x. (c.args.i, x))) c.in_ok-row.ensures
