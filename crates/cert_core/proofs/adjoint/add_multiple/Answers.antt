use Rattle.std.specs.Prelude.{◌+◌, [], ◌∷◌, All, Contains}
use Rattle.std.specs.Bool.{passes}
use Rattle.std.proofs.Common.{drop, refl, subst}
use Rattle.std.proofs.Math.ListN.{drop_of_length-le}
use Rattle.ratio_core.specs.Rational.{◌*ℚ◌}
use Rattle.ratio_core.specs.AnsweredLaws.{passed_on}
use Rattle.map_laws.specs.EntryLaws.{is_sorted-drop}
use Rattle.aff_core.specs.Address.{address_cmp}
use Rattle.aff_core.specs.Terms.{StepFits}
use Rattle.cert_core.specs.Adding.{coefficient_among}
use Rattle.cert_core.specs.Folds.{AddUp}
use Rattle.cert_core.proofs.Adding.{TermsAsAll, terms_end, terms_fit, terms_step}
use Rattle.map_laws.specs.LoopLaws.{next_item}
use Rattle.cert_core.proofs.adjoint.add_multiple.Goals as goal

pub returns-in_err-add_term : goal.returns-in_err-add_term
returns-in_err-add_term c = λ x is fit.
    let us = c.args.variables.now in
    let ts = c.args.terms.now in
    let i = c.loop-at.at-index in
    let t = c.loop-at-item.result in
    let next = next_item ts ts i t refl c.loop-at-item.is c.loop-at-test.true in
    let sorted = is_sorted-drop address_cmp i ts (passes _ c.requires.terms.rising) in
    let from = c.loop-at.invariant x is fit in
    passed_on c.from_residual.result c.in_err-add_term.field-0.0
    (Contains us t.0 → StepFits (from.now t.0) c.args.by.now t.1)
    (All (λ v. AddUp (x v) (c.args.by.now *ℚ coefficient_among ts v ∷ [])) us) _ _
    c.from_residual.ensures.1 (c.in_err-add_term.ensures from.now from.is)
    (λ all. terms_fit us c.args.sums.now c.args.by.now ts c.loop-at.sums (drop i ts)
    (drop (i + 1) ts) t c.loop-at.invariant next sorted x is fit all)

pub loop-at-preserved : goal.loop-at-preserved
loop-at-preserved c =
    let us = c.args.variables.now in
    let ts = c.args.terms.now in
    let i = c.loop-at.at-index in
    let t = c.loop-at-item.result in
    let next = next_item ts ts i t refl c.loop-at-item.is c.loop-at-test.true in
    let sorted = is_sorted-drop address_cmp i ts (passes _ c.requires.terms.rising) in
    terms_step us c.args.sums.now c.args.by.now ts c.loop-at.sums (drop i ts) (drop (i + 1) ts) t
    c.loop-at.invariant next sorted c.add_term.new.sums c.in_ok-add_term.ensures

pub returns : goal.returns
returns c =
    let us = c.args.variables.now in
    let ts = c.args.terms.now in
    terms_end us c.args.sums.now c.args.by.now ts c.loop-at.sums
    (subst (TermsAsAll us c.args.sums.now c.loop-at.sums c.args.by.now ts)
    (drop_of_length-le ts c.loop-at-test.false) c.loop-at.invariant)
