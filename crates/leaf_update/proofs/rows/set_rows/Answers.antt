use Rattle.std.proofs.Common.{◌+◌, ◌++◌, drop, arith, ap, ◌∙◌, sym, subst, refl}
use Rattle.std.specs.Prelude.{flat_map}
use Rattle.fresh_bridging.specs.Leaves.{leaf_rows}
use Rattle.map_laws.specs.LoopLaws.{next_item}
use Rattle.leaf_update.proofs.rows.set_rows.Goals as goal
use Rattle.leaf_update.specs.Phases.{SetsRows}
use Rattle.leaf_update.proofs.PhaseSteps.{sets_rows_more}

pub loop-leaf-preserved : goal.loop-leaf-preserved
loop-leaf-preserved c =
    let l = c.loop-leaf in
    let leaves = c.args.leaves.now in
    let leaf = c.leaf-item.result in
    let next = next_item leaves leaves l.leaf-index leaf refl c.leaf-item.is
    c.loop-leaf-test.true in
    record {
      done =
          sets_rows_more c.args.map.now l.map c.set_if_row.new.map c.args.solver.now.leaves
          l.solver.leaves c.set_if_row.new.solver.leaves (flat_map leaf_rows leaves)
          l.invariant.done.0 (leaf_rows leaf)
          (flat_map leaf_rows (drop (l.leaf-index + 1) leaves)) l.changed
          c.from.result c.requires.apart
          (ap (λ vs. l.invariant.done.0 ++ flat_map leaf_rows vs) (sym next)
          ∙ l.invariant.done.1)
          l.invariant.done.2
          (subst (λ n. SetsRows l.map l.solver.leaves (leaf_rows leaf) n
          c.set_if_row.new.map c.set_if_row.new.solver.leaves) (sym c.from.ensures)
          c.in_ok-set_if_row.ensures.set);
      few = omega (arith, l.invariant.few, c.in_ok-set_if_row.ensures.few, c.from.ensures);
    }
