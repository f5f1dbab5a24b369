use Rattle.std.proofs.Common.{[], ◌∷◌, arith, subst, sym, take}
use Rattle.std.proofs.lemmas.List.{take_all}
use Rattle.found_plan.specs.Marked.{TellsMarks}
use Rattle.found_plan.proofs.LoopSteps.{take_one}
use Rattle.found_plan.proofs.MarkSteps.{marks_both, marks_none}
use Rattle.found_plan.proofs.kinds.tell_each.Goals as goal

pub loop-var-init : goal.loop-var-init
loop-var-init c = marks_none c.args.map.now c.args.kept.now

pub loop-var-preserved : goal.loop-var-preserved
loop-var-preserved c =
    let l = c.loop-var in
    let vars = c.args.vars.now in
    let var = c.var-item.result in
    subst (λ vs. TellsMarks c.args.map.now vs c.args.kept.now c.tell_variable.new.kept)
    (sym (take_one vars l.var-index var c.var-item.is c.loop-var-test.true))
    (marks_both c.args.map.now (take l.var-index vars) (var ∷ []) c.args.kept.now l.kept
    c.tell_variable.new.kept l.invariant c.in_ok-tell_variable.ensures)

pub returns : goal.returns
returns c =
    let l = c.loop-var in
    subst (λ vs. TellsMarks c.args.map.now vs c.args.kept.now l.kept)
    (take_all l.var-index c.args.vars.now (omega arith)) l.invariant
