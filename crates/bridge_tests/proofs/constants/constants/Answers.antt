use Rattle.std.proofs.Common.{[], ap₂, ◌++◌, ◌∙◌, ◌∷◌}
use Rattle.item_core.specs.declared.item.Body.TheVariants.{AffineVec}
use Rattle.bridge_tests.specs.SampleLaws.{placed}
use Rattle.bridge_tests.proofs.constants.constants.Goals as goal

pub returns : goal.returns
returns c =
    ap₂ (λ at fs. placed at (AffineVec fs c.args.set)) c.place.ensures
    (c.from_vec-func.ensures
    ∙ c.in_ok-push-2.ensures.items
    ∙ ap₂ (λ fs f. fs ++ f ∷ [])
    (c.in_ok-push.ensures.items
    ∙ ap₂ (λ fs f. fs ++ f ∷ []) c.new-funcs.ensures.items c.constant_function.ensures)
    c.constant_function-2.ensures)
