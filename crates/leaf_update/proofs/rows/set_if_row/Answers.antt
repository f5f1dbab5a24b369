use Rattle.std.proofs.Common.{arith, sym, subst}
use Rattle.leaf_update.proofs.rows.set_if_row.Goals as goal
use Rattle.leaf_update.specs.Phases.{SetsRows}
use Rattle.leaf_update.proofs.PhaseSteps.{sets_no_row, sets_one_row}

pub returns-then-is_no_row : goal.returns-then-is_no_row
returns-then-is_no_row c =
    let m = c.args.map.now in
    let s = c.args.solver.now.leaves in
    record {
      set = subst (λ es. SetsRows m s es 0 m s) (sym c.if-is_no_row.ensures)
          (sets_no_row m s c.requires.named);
      few = omega arith;
    }

pub set_row-requires-clause-row : goal.set_row-requires-clause-row
set_row-requires-clause-row c = c.if-is_no_row.ensures

pub returns : goal.returns
returns c =
    let m = c.args.map.now in
    let s = c.args.solver.now.leaves in
    let leaf = c.args.leaf.now in
    record {
      set =
          subst (λ es. SetsRows m s es c.in_ok-changed.changed c.set_row.new.map
          c.set_row.new.solver.leaves) (sym c.if-is_no_row.ensures)
          (sets_one_row m s leaf.at leaf.body c.in_ok-changed.changed c.set_row.new.map
          c.set_row.new.solver.leaves c.in_ok-changed.ensures.set);
      few = c.in_ok-changed.ensures.few;
    }
