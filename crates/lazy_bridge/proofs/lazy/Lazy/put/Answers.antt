use Rattle.std.proofs.Common.{arith, ap, map, subst, ◌∙◌}
use Rattle.bridge_set.specs.Bridges.{keeping}
use Rattle.leaf_model.specs.LeafModel.{IsChangeCount}
use Rattle.lazy_bridge.specs.Few.{ChangesFew}
use Rattle.lazy_bridge.specs.Owned.{Owned, leaf_model_in}
use Rattle.lazy_bridge.proofs.lazy.Lazy.put.Goals as goal

pub returns-in-Ok-clause-holds : goal.returns-in-Ok-clause-holds
returns-in-Ok-clause-holds g c =
    let changed = c.in-Ok.ensures.changed in
    let nodes = c.args.planned.plan.nodes.items in
    let new : Owned = record {
      bridges = c.put_model.new.bridges;
      solver = c.put_model.new.solver;
      map = c.put_model.new.map;
      objective_at = c.put_model.new.objective_at;
    } in (
      record {
        leaves = changed.through;
        named = changed.named;
        kept = c.in-Ok.ensures.kept
            ∙ ap (λ (o : Owned). map (keeping nodes) o.bridges.states) c.self.view_is;
        exprs = changed.exprs;
        noted = c.in-Ok.ensures.noted;
        marks = c.in-Ok.ensures.marks;
      },
      (
        c.in-Ok.changed,
        subst (λ (o : Owned). IsChangeCount (leaf_model_in o) (leaf_model_in new) c.in-Ok.changed)
            c.self.view_is changed.counted,
        c.capped.ensures,
      ),
    )

pub returns-in-Ok-clause-few : goal.returns-in-Ok-clause-few
returns-in-Ok-clause-few g c =
    let changed = c.in-Ok.ensures.changed in
    let new : Owned = record {
      bridges = c.put_model.new.bridges;
      solver = c.put_model.new.solver;
      map = c.put_model.new.map;
      objective_at = c.put_model.new.objective_at;
    } in
    subst (λ (o : Owned). ChangesFew o c.capped.result new) c.self.view_is (record {
      rises = changed.rises;
      calls =
          omega (arith, changed.calls, c.capped.ensures, c.calls-few.ensures, c.calls-few.type_inv);
      variables = changed.vars;
      rows = changed.rows;
    })
