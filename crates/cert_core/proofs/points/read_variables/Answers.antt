use mathlib.Core.List.{map-map}
use Rattle.std.specs.Prelude.{All}
use Rattle.std.proofs.Common.{◌∙◌, sym}
use Rattle.std.proofs.lemmas.List.Elements.{All-map}
use Rattle.map_laws.specs.EachLaws.{all_from_map}
use Rattle.ratio_core.specs.AnsweredLaws.{passed_on}
use Rattle.aff_core.specs.Address.{address_cmp}
use Rattle.aff_core.specs.Function.{evaluated, variable}
use Rattle.certificates.specs.Points.{variables_at}
use Rattle.cert_core.specs.Folds.{EvaluationFits}
use Rattle.cert_core.specs.Points.{numbers_in}
use Rattle.cert_core.specs.Readings.{one_of}
use Rattle.cert_core.proofs.Made.{made_all, made_refused}
use Rattle.cert_core.proofs.points.read_variables.Goals as goal

pub returns-in_err-of_variable : goal.returns-in_err-of_variable
returns-in_err-of_variable c =
    let one = one_of c.args.reading in
    let x = numbers_in c.args.at.now in
    let us = c.args.vars.now in
    passed_on c.from_residual-in_err-of_variable.result c.in_err-of_variable.field-0.0
    (EvaluationFits one (variable c.var-item.result) x)
    (All (λ f. EvaluationFits one f x) (variables_at us)) _ _
    c.from_residual-in_err-of_variable.ensures.1 c.in_err-of_variable.ensures
    (λ all. made_refused (λ v. EvaluationFits one (variable v) x)
    (λ v. evaluated {R = address_cmp} one (variable v) x) us c.loop-var.var-index c.var-item.result
    c.var-item.is c.loop-var-test.true
    (all_from_map (λ f. EvaluationFits one f x) (λ v. variable {R = address_cmp} v) us all))

pub returns : goal.returns
returns c =
    let one = one_of c.args.reading in
    let x = numbers_in c.args.at.now in
    let us = c.args.vars.now in
    let all = made_all (λ v. EvaluationFits one (variable v) x)
    (λ v. evaluated {R = address_cmp} one (variable v) x) us c.loop-var.var-index
    c.loop-var.read.items c.loop-var.invariant c.loop-var-test.false in (
      All-map (λ f. EvaluationFits one f x) (λ v. variable {R = address_cmp} v) us all.0,
      all.1 ∙ sym (map-map (λ f. evaluated one f x) (λ v. variable {R = address_cmp} v) us),
    )
