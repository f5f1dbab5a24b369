use Rattle.std.proofs.Common.{◌∙◌, ◌++◌, ap, sym}
use Rattle.std.specs.Prelude.{codes}
use Rattle.std.proofs.lemmas.List.{at_drop_more, at_drop_all}
use Rattle.std.proofs.lemmas.List.Folds.{flat_map-map}
use Rattle.bridged_report.specs.Functions.{parted}
use Rattle.bridged_report.specs.Indexed.{function_text_in}
use Rattle.bridged_report.proofs.Pushes.{pushed_more, pushed_all, pushed_after}
use Rattle.bridged_report.proofs.functions.push_further_components.Goals as goal

pub loop-component-preserved : goal.loop-component-preserved
loop-component-preserved c =
    let text = function_text_in c.args.model.now.model c.args.places.now.vars.indices in
    pushed_more (λ f. parted (text f)) c.loop-component.draft _ _ c.component-item.result
    c.loop-component.invariant (at_drop_more (λ fs. fs) c.args.components.now
    c.loop-component.component-index c.component-item.result c.loop-component-test.true ∙ cc)
    (c.in_ok-push_function.ensures ∙ pushed_after c.loop-component.draft (codes " ; ") _
    c.in_ok-push.ensures)

pub returns : goal.returns
returns c =
    let text = function_text_in c.args.model.now.model c.args.places.now.vars.indices in
    pushed_all (λ f. parted (text f)) c.loop-component.draft c.loop-component.invariant
    (at_drop_all (λ fs. fs) c.args.components.now c.loop-component.component-index
    c.loop-component-test.false)
    ∙ ap (λ t. c.args.draft.now ++ t) (sym (flat_map-map parted text c.args.components.now))
