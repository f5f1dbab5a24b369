use Rattle.std.proofs.Common.{◌+◌, ap, ◌∙◌, drop, map}
use Rattle.map_laws.specs.LoopLaws.{next_item}
use Rattle.std.specs.FinMap as finite
use Rattle.user_model.specs.Model.{variable_address}
use Rattle.user_model.specs.declared.group.GroupVar.{GroupVar}
use Rattle.model_bridging.proofs.Telling.{tell_more}
use Rattle.model_bridging.proofs.kinds.tell.Goals as goal

pub loop-var-preserved : goal.loop-var-preserved
loop-var-preserved c =
    let vars = c.args.vars.now in
    let at = c.loop-var in
    let var = c.var-item.result in
    let next = ap (map (λ (x : GroupVar). variable_address x.number))
    (next_item vars vars at.var-index var (λ i. vars) c.var-item.is c.loop-var-test.true) in
    tell_more c.args.keeps (map (λ (x : GroupVar). variable_address x.number) vars)
    (map (λ (x : GroupVar). variable_address x.number) (drop at.var-index vars))
    (map (λ (x : GroupVar). variable_address x.number) (drop (at.var-index + 1) vars))
    c.args.kept.now at.kept c.put.new.self (variable_address var.number) at.invariant next
    (c.in-Ok.ensures.ok ∙ ap (λ a. finite.insert at.kept a c.args.keeps) c.root.ensures)
