use Rattle.std.specs.Prelude.{◌++◌, ◌∷◌, [], All, map}
use Rattle.std.proofs.Common.{◌∙◌, ap, ap₂, sym}
use Rattle.std.proofs.lemmas.List.{take_all}
use Rattle.map_laws.specs.LoopLaws.{map-take_more}
use Rattle.ratio_core.specs.Rational.{one_ℚ, zero_ℚ}
use Rattle.aff_core.specs.Function.{evaluated}
use Rattle.cert_core.specs.Folds.{EvaluationFits}
use Rattle.cert_core.specs.Points.{numbers_in}
use Rattle.adjoint_core.specs.Read.{expression_at}
use Rattle.adjoint_core.specs.Told.{FirstNot}
use Rattle.adjoint_core.proofs.InOrder.{made_end, made_refused, made_step, told_on}
use Rattle.adjoint_core.proofs.values.values_and_entries.Goals as goal

pub returns-in_err-value : goal.returns-in_err-value
returns-in_err-value c =
    let f = expression_at c.args.places.now.exprs in
    let x = numbers_in c.args.at.now in
    let d = numbers_in c.args.along.now in
    let us = c.args.users.now in
    told_on c.from_residual-in_err-value.result c.in_err-value.field-0.0
    (EvaluationFits one_ℚ (f c.user-item.result) x)
    (All (λ v. EvaluationFits one_ℚ (f v) x × EvaluationFits zero_ℚ (f v) d) us) _ _
    _ (FirstNot (λ v. EvaluationFits one_ℚ (f v) x × EvaluationFits zero_ℚ (f v) d) (λ v. v) us)
    c.from_residual-in_err-value.ensures.1 c.in_err-value.ensures
    (λ at k. made_refused (λ v. EvaluationFits one_ℚ (f v) x × EvaluationFits zero_ℚ (f v) d)
    (λ v. v) (λ v. evaluated one_ℚ (f v) x) us
    c.loop-user.user-index c.loop-user.values.items c.loop-user.invariant.0 c.user-item.result
    c.user-item.is c.loop-user-test.true at ((λ both. k.0 both.0), k.1))

pub returns-in_err-value-2 : goal.returns-in_err-value-2
returns-in_err-value-2 c =
    let f = expression_at c.args.places.now.exprs in
    let x = numbers_in c.args.at.now in
    let d = numbers_in c.args.along.now in
    let us = c.args.users.now in
    told_on c.from_residual-in_err-value-2.result c.in_err-value-2.field-0.0
    (EvaluationFits zero_ℚ (f c.user-item.result) d)
    (All (λ v. EvaluationFits one_ℚ (f v) x × EvaluationFits zero_ℚ (f v) d) us) _ _
    _ (FirstNot (λ v. EvaluationFits one_ℚ (f v) x × EvaluationFits zero_ℚ (f v) d) (λ v. v) us)
    c.from_residual-in_err-value-2.ensures.1 c.in_err-value-2.ensures
    (λ at k. made_refused (λ v. EvaluationFits one_ℚ (f v) x × EvaluationFits zero_ℚ (f v) d)
    (λ v. v) (λ v. evaluated one_ℚ (f v) x) us
    c.loop-user.user-index c.loop-user.values.items c.loop-user.invariant.0 c.user-item.result
    c.user-item.is c.loop-user-test.true at ((λ both. k.0 both.1), k.1))

pub loop-user-preserved : goal.loop-user-preserved
loop-user-preserved c =
    let f = expression_at c.args.places.now.exprs in
    let x = numbers_in c.args.at.now in
    let d = numbers_in c.args.along.now in
    let us = c.args.users.now in (
      made_step (λ v. EvaluationFits one_ℚ (f v) x × EvaluationFits zero_ℚ (f v) d) (λ v. v)
          (λ v. evaluated one_ℚ (f v) x) us c.loop-user.user-index c.loop-user.values.items
          c.loop-user.invariant.0 c.user-item.result c.user-item.is c.loop-user-test.true
          c.in_ok-value.field-0 c.push.new.self.items
          (c.in_ok-value.ensures.0, c.in_ok-value-2.ensures.0) c.in_ok-value.ensures.1
          c.in_ok-push.ensures.items,
      c.in_ok-push-2.ensures.items
          ∙ ap₂ (λ l z. l ++ z ∷ []) c.loop-user.invariant.1 c.in_ok-value-2.ensures.1
          ∙ sym (map-take_more (λ v. evaluated zero_ℚ (f v) d) us c.loop-user.user-index
          c.user-item.result c.user-item.is c.loop-user-test.true),
    )

pub returns : goal.returns
returns c =
    let f = expression_at c.args.places.now.exprs in
    let x = numbers_in c.args.at.now in
    let d = numbers_in c.args.along.now in
    let us = c.args.users.now in
    let all = made_end (λ v. EvaluationFits one_ℚ (f v) x × EvaluationFits zero_ℚ (f v) d)
    (λ v. v) (λ v. evaluated one_ℚ (f v) x) us c.loop-user.user-index c.loop-user.values.items
    c.loop-user.invariant.0 c.loop-user-test.false in (
      all.0,
      (
        all.1,
        c.loop-user.invariant.1
            ∙ ap (map (λ v. evaluated zero_ℚ (f v) d))
            (take_all c.loop-user.user-index us c.loop-user-test.false),
      ),
    )
