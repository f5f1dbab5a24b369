use Rattle.std.proofs.Common.{◌+◌, ◌++◌, ◌∷◌, [], drop, arith, ap, ◌∙◌, sym, subst, refl}
use Rattle.leaf_update.specs.Puts.{variables_as}
use Rattle.map_laws.specs.LoopLaws.{next_item}
use Rattle.leaf_update.proofs.variables.set_each.Goals as goal
use Rattle.leaf_update.proofs.PhaseSteps.{sets_more, sets_one}
use Rattle.leaf_update.specs.Steps.{SetsVariable}

pub loop-at-preserved : goal.loop-at-preserved
loop-at-preserved c =
    let l = c.loop-at in
    let vars = c.args.vars.now in
    let at = c.at-item.result in
    let rest = drop (l.at-index + 1) vars in
    let next = next_item vars vars l.at-index at refl c.at-item.is c.loop-at-test.true in
    record {
      done =
          sets_more c.args.map.now l.map c.set_variable.new.map c.args.solver.now.leaves
          l.solver.leaves c.set_variable.new.solver.leaves (variables_as c.args.var vars)
          l.invariant.done.0 ((at, c.args.var) ∷ []) (variables_as c.args.var rest) l.changed
          c.from.result c.requires.apart
          (ap (λ vs. l.invariant.done.0 ++ variables_as c.args.var vs) (sym next)
          ∙ l.invariant.done.1)
          l.invariant.done.2
          (sets_one l.map l.solver.leaves at c.args.var c.from.result
          c.set_variable.new.map c.set_variable.new.solver.leaves
          (subst (λ n. SetsVariable l.map l.solver.leaves at c.args.var n c.set_variable.new.map
          c.set_variable.new.solver.leaves) (sym c.from.ensures)
          c.in_ok-set_variable.ensures.set));
      few = omega (arith, l.invariant.few, c.in_ok-set_variable.ensures.few, c.from.ensures);
    }
