use Rattle.std.proofs.Common.{arith}
use Rattle.touched_items.proofs.Sames.{variables_same}
use Rattle.touched_items.proofs.same.same_variables.Goals as goal

pub returns : goal.returns
returns c =
    variables_same c.args.one.now c.args.other.now c.same_numbers.result (omega arith)
    c.same_numbers.ensures
