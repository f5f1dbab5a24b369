use Rattle.std.proofs.Common.{◌++◌, ◌∷◌, [], arith, sym, ap₂, ◌∙◌}
use Rattle.std.proofs.lemmas.List.FromFn.{map-range_with_len_more}
use Rattle.aff_core.specs.Address.{child_of}
use Rattle.bridge_face.proofs.groups.components.Goals as goal

pub loop-component-preserved : goal.loop-component-preserved
loop-component-preserved c =
    c.in_ok-push.ensures.items
    ∙ ap₂ (λ xs x. xs ++ x ∷ []) c.loop-component.invariant c.child.ensures
    ∙ sym (map-range_with_len_more (child_of c.args.at.now) 0 c.loop-component.component
    c.loop-component.component (omega arith))
