use Rattle.std.proofs.Common.{◌+◌, ◌++◌, drop, arith, ap, ◌∙◌, sym, subst, refl}
use Rattle.std.specs.Prelude.{flat_map}
use Rattle.fresh_bridging.specs.Leaves.{leaf_variables}
use Rattle.map_laws.specs.LoopLaws.{next_item}
use Rattle.leaf_update.proofs.variables.set_variables.Goals as goal
use Rattle.leaf_update.specs.Phases.{SetsVariables}
use Rattle.leaf_update.proofs.PhaseSteps.{sets_more, these_keys}

pub set_leaf-requires-clause-apart : goal.set_leaf-requires-clause-apart
set_leaf-requires-clause-apart c =
    let l = c.loop-leaf in
    let leaves = c.args.leaves.now in
    let leaf = c.leaf-item.result in
    let next = next_item leaves leaves l.leaf-index leaf refl c.leaf-item.is
    c.loop-leaf-test.true in
    these_keys (flat_map leaf_variables leaves) l.invariant.done.0 (leaf_variables leaf)
    (flat_map leaf_variables (drop (l.leaf-index + 1) leaves))
    (ap (λ vs. l.invariant.done.0 ++ flat_map leaf_variables vs) (sym next) ∙ l.invariant.done.1)
    c.requires.apart

pub loop-leaf-preserved : goal.loop-leaf-preserved
loop-leaf-preserved c =
    let l = c.loop-leaf in
    let leaves = c.args.leaves.now in
    let leaf = c.leaf-item.result in
    let next = next_item leaves leaves l.leaf-index leaf refl c.leaf-item.is
    c.loop-leaf-test.true in
    record {
      done =
          sets_more c.args.map.now l.map c.set_leaf.new.map c.args.solver.now.leaves
          l.solver.leaves c.set_leaf.new.solver.leaves (flat_map leaf_variables leaves)
          l.invariant.done.0 (leaf_variables leaf)
          (flat_map leaf_variables (drop (l.leaf-index + 1) leaves)) l.changed
          c.from.result c.requires.apart
          (ap (λ vs. l.invariant.done.0 ++ flat_map leaf_variables vs) (sym next)
          ∙ l.invariant.done.1)
          l.invariant.done.2
          (subst (λ n. SetsVariables l.map l.solver.leaves (leaf_variables leaf) n
          c.set_leaf.new.map c.set_leaf.new.solver.leaves) (sym c.from.ensures)
          c.in_ok-set_leaf.ensures.set);
      few = omega (arith, l.invariant.few, c.in_ok-set_leaf.ensures.few, c.from.ensures);
    }
