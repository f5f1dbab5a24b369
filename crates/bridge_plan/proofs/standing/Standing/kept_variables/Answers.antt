use Rattle.std.proofs.lemmas.List.{drop_all}
use Rattle.map_laws.specs.LoopLaws.{next_item}
use Rattle.fresh_bridging.specs.Entries.{expression_in}
use Rattle.bridge_plan.proofs.KeptLists.{kept_more, none_left}
use Rattle.bridge_plan.proofs.standing.Standing.kept_variables.Goals as goal

pub loop-var-preserved : goal.loop-var-preserved
loop-var-preserved c =
    let l = c.loop-var in
    let vars = c.args.vars.now in
    kept_more (expression_in c.args.self.now) vars l.var-index c.var-item.result
    (next_item vars vars l.var-index c.var-item.result (λ i. vars) c.var-item.is
    c.loop-var-test.true)
    c.in-Some.var l.kept.items c.push.new.self.items l.invariant c.in-Some.ensures
    c.in_ok-push.ensures.items

pub returns : goal.returns
returns c =
    let l = c.loop-var in
    let vars = c.args.vars.now in
    none_left (expression_in c.args.self.now) vars l.var-index l.kept.items c.from_vec.result
    l.invariant (drop_all l.var-index vars c.loop-var-test.false) c.from_vec.ensures
