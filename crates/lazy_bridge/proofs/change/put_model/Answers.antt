use Rattle.std.proofs.Common.{subst, sym, ◌∙◌}
use Rattle.std.specs.Prelude.{List}
use Rattle.fresh_bridging.specs.Leaves.{leaf_model_of}
use Rattle.item_core.specs.declared.item.Item.{Item}
use Rattle.leaf_update.specs.Splice.{IsChangedTo}
use Rattle.lazy_bridge.specs.Plans.{with_exprs}
use Rattle.lazy_bridge.proofs.Putting.{changed_since}
use Rattle.lazy_bridge.proofs.change.put_model.Goals as goal

pub returns-clause-changed : goal.returns-clause-changed
returns-clause-changed g c =
    let put = c.put_expressions.ensures in
    let marked = c.mark_variables.ensures in
    let noted = c.note_model.ensures in
    changed_since (leaf_model_of c.args.planned.plan.leaves.items) c.args.solver.now
    c.replace_leaves.new.solver c.put_expressions.new.map
    (with_exprs c.args.map.now c.args.planned.exprs.items) c.replace_leaves.new.map
    c.note_model.new.map c.args.objective_at.now c.replace_leaves.new.objective_at
    c.in_ok-changed.changed
    (record {
      vars = sym put.vars;
      rows = sym put.rows;
      exprs = sym c.in_ok-put_expressions.ensures.exprs;
    })
    (record {
      vars = noted.vars ∙ marked.vars;
      rows = noted.rows ∙ marked.rows;
      exprs = noted.exprs ∙ marked.exprs;
    })
    (subst (λ (leaves : List Item). IsChangedTo (leaf_model_of leaves) c.args.solver.now
    c.put_expressions.new.map c.args.objective_at.now c.in_ok-changed.changed
    c.replace_leaves.new.solver c.replace_leaves.new.map c.replace_leaves.new.objective_at)
    c.deref.ensures.value c.in_ok-changed.ensures.replaced)
