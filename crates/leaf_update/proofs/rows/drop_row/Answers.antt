use Rattle.std.proofs.Common.{arith, sym}
use Rattle.leaf_update.proofs.rows.drop_row.Goals as goal
use Rattle.leaf_update.proofs.RowSteps.{row_dropped}

pub returns : goal.returns
returns c = record {
  dropped =
      row_dropped c.args.map.now c.args.solver.now.leaves c.requires.named
      (omega (arith, c.calls-few.ensures, c.calls-few.type_inv))
      c.drop_row.new.self c.remove_row.new.self.leaves c.in-Some.ensures.vars
      (λ j. (c.in-Some.ensures.exprs j, (c.in-Some.ensures.noted j, c.in-Some.ensures.kept j))) c.args.at.now c.in-Some.i c.row_at-one_to_one.ensures.one_to_one
      (sym c.in-Some.ensures.index) c.remove_row.ensures.removed c.in-Some.ensures.removed;
}
