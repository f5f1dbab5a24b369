use Rattle.std.proofs.Common.{◌++◌, ◌∷◌, [], ap, arith, cond, refl, ◌∙◌}
use Rattle.user_model.specs.Model.{variable_address}
use Rattle.found_plan.specs.Stood.{has_leaf, own_leaves}
use Rattle.found_plan.proofs.LoopSteps.{filter_cons, none_left, one_left}
use Rattle.found_plan.proofs.leaves.list_own.Goals as goal
use Rattle.user_model.specs.declared.group.GroupVar.{GroupVar}

pub loop-var-preserved : goal.loop-var-preserved
loop-var-preserved c =
    let l = c.loop-var in
    let places = c.args.map.now in
    let var = c.var-item.result in
    one_left (own_leaves places)
    (λ (v : GroupVar). cond (has_leaf places (variable_address v.number))
    (variable_address v.number ∷ []) [])
    (λ x xs. filter_cons (has_leaf places (variable_address x.number)) (variable_address x.number)
    (own_leaves places xs)) c.args.vars.now l.var-index var l.list c.list_leaf.new.list _
    c.var-item.is c.loop-var-test.true
    (c.in_ok-list_leaf.ensures ∙ ap (λ at. l.list ++ cond (has_leaf places at) (at ∷ []) [])
    c.root.ensures) l.invariant

pub returns : goal.returns
returns c =
    let l = c.loop-var in
    none_left (own_leaves c.args.map.now) c.args.vars.now l.var-index l.list _ refl (omega arith)
    l.invariant
