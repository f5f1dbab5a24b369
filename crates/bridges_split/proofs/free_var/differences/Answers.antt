use Rattle.std.proofs.Common.{◌++◌, ◌∷◌, ◌+◌, [], arith, sym, ap, ap₂, ◌∙◌}
use Rattle.std.proofs.lemmas.List.FromFn.{map-range_with_len_more}
use Rattle.aff_core.specs.Function.{coefficient, variable}
use Rattle.aff_core.specs.FunctionLaws.{coefficient-variable_other}
use Rattle.aff_core.specs.KeyOrder.{address_order}
use Rattle.item_core.specs.declared.image.Expression.TheVariants.{Bridged}
use Rattle.bridge_face.specs.ComponentLaws.{other_child}
use Rattle.bridge_face.specs.Images.{difference}
use Rattle.bridges_split.specs.FreeVarLaws.{halved}
use Rattle.bridges_split.proofs.free_var.differences.Goals as goal

pub less_variable-requires : goal.less_variable-requires
less_variable-requires c =
    ap (λ f. coefficient f c.child-in-loop-n.result) c.in_ok-plus.ensures
    ∙ coefficient-variable_other address_order c.child.result c.child-in-loop-n.result
    (λ e. other_child c.args.group.now (c.args.count + c.loop-n.n) c.loop-n.n
    (λ k. absurd (omega (arith, k, c.loop-n-test.true)))
    (sym c.child-in-loop-n.ensures ∙ e ∙ c.child.ensures))

pub loop-n-preserved : goal.loop-n-preserved
loop-n-preserved c =
    c.in_ok-push.ensures.items
    ∙ ap₂ (λ xs f. xs ++ Bridged f ∷ []) c.loop-n.invariant
    (c.in_ok-func.ensures ∙ ap₂ difference (c.in_ok-plus.ensures ∙ ap variable c.child.ensures)
    (ap variable c.child-in-loop-n.ensures))
    ∙ sym (map-range_with_len_more (halved c.args.group.now c.args.count) 0 c.loop-n.n c.loop-n.n
    (omega arith))
