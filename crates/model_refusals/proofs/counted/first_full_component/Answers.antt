use Rattle.std.proofs.Common.{◌≡◌, length, map, arith, ◌∙◌}
use Rattle.std.proofs.lemmas.List.{length-map}
use Rattle.aff_core.specs.Function.{with_coefficient}
use Rattle.user_model.specs.Edited.{changed_at}
use Rattle.user_model.specs.Functions.{term_count}
use Rattle.model_refusals.proofs.ChangedTerms.{length-changed_at}
use Rattle.model_refusals.proofs.Counting.{within_above, within_all, within_more}
use Rattle.model_refusals.proofs.counted.first_full_component.Goals as goal

pub returns-then-count-gt-TERMS : goal.returns-then-count-gt-TERMS
returns-then-count-gt-TERMS c =
    within_above (map term_count (changed_at c.args.place
    (λ f. with_coefficient f c.args.at.now c.args.value.now) c.args.funcs.now))
    c.loop-index.index c.component_terms-count.result c.component_terms-count.ensures
    c.loop-index.invariant c.if-count-gt-TERMS.true

pub loop-index-preserved : goal.loop-index-preserved
loop-index-preserved c =
    within_more (map term_count (changed_at c.args.place
    (λ f. with_coefficient f c.args.at.now c.args.value.now) c.args.funcs.now))
    c.loop-index.index c.component_terms-count.result c.component_terms-count.ensures
    c.loop-index.invariant c.if-count-gt-TERMS.false

pub returns : goal.returns
returns c =
    let changed = changed_at c.args.place (λ f. with_coefficient f c.args.at.now c.args.value.now)
    c.args.funcs.now in
    let len : length (map term_count changed) ≡ length c.args.funcs.now =
    length-map changed term_count ∙ length-changed_at (λ f. with_coefficient f c.args.at.now
    c.args.value.now) c.args.place c.args.funcs.now in
    within_all (map term_count changed) c.loop-index.index (omega arith) c.loop-index.invariant
