use Rattle.std.proofs.Common.{Some, length, ap, sym, ◌∙◌}
use Rattle.std.proofs.lemmas.Option.{slice_get-get_or}
use Rattle.aff_core.specs.Function.{with_coefficient}
use Rattle.model_refusals.proofs.Counting.{changed_count_elsewhere, changed_count_here}
use Rattle.model_refusals.proofs.counted.component_terms.Goals as goal

pub returns-then-index-place : goal.returns-then-index-place
returns-then-index-place c =
    let func = c.index-funcs-index.result in
    let here = slice_get-get_or c.args.funcs.now c.args.index func c.requires
    ∙ ap Some (sym c.index-funcs-index.is) in
    changed_count_here (λ f. with_coefficient f c.args.at.now c.args.value.now) c.args.place
    c.args.funcs.now c.args.index func here c.if-index-place.true
    ∙ ap Some (sym c.terms_with.ensures.value)

pub returns-else-index-place : goal.returns-else-index-place
returns-else-index-place c =
    let func = c.index-funcs-index.result in
    let here = slice_get-get_or c.args.funcs.now c.args.index func c.requires
    ∙ ap Some (sym c.index-funcs-index.is) in
    changed_count_elsewhere (λ f. with_coefficient f c.args.at.now c.args.value.now) c.args.place
    c.args.funcs.now c.args.index func here c.if-index-place.false
    ∙ ap Some (sym (ap length c.terms.ensures.all))
