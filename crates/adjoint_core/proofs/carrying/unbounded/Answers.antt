use Rattle.std.specs.Prelude.{◌≡◌, List, All, map}
use Rattle.std.proofs.Common.{◌∙◌, rules}
use Rattle.ratio_core.specs.Rational.{Rational, one_ℚ, zero_ℚ}
use Rattle.aff_core.specs.Address.{Address}
use Rattle.aff_core.specs.Function.{evaluated}
use Rattle.cert_core.specs.Folds.{EvaluationFits}
use Rattle.adjoint_core.specs.CarriedBack.{PointAndRayFit, point, ray, users}
use Rattle.adjoint_core.specs.Read.{expression_at, numbers_by}
use Rattle.adjoint_core.specs.Told.{FirstNot}
use Rattle.adjoint_core.proofs.InOrder.{told_on}
use Rattle.adjoint_core.proofs.Moved.{move3, point_is, ray_is}
use Rattle.adjoint_core.proofs.carrying.unbounded.Goals as goal

pub returns-in_err-both : goal.returns-in_err-both
returns-in_err-both c =
    let m = c.args.model.now.model in
    let f = expression_at c.args.places.now.exprs in
    let x = numbers_by c.args.places.now c.args.x.now in
    let d = numbers_by c.args.places.now c.args.d.now in
    told_on c.from_residual-in_err-both.result c.in_err-both.field-0.0 _
    (All (PointAndRayFit m f x d) (users m)) _ _ _ (FirstNot (PointAndRayFit m f x d) (λ v. v) (users m))
    c.from_residual-in_err-both.ensures.1 c.in_err-both.ensures
    (λ at h. move3 (λ (us : List Address) (p q : Address → Rational).
    FirstNot (λ v. EvaluationFits one_ℚ (f v) p × EvaluationFits zero_ℚ (f v) q) (λ v. v) us at)
    h (search rules) (c.point.ensures ∙ c.in_ok-leaf.ensures)
    (c.point-2.ensures ∙ c.in_ok-along.ensures))

pub returns : goal.returns
returns c =
    let m = c.args.model.now.model in
    let f = expression_at c.args.places.now.exprs in
    let x = numbers_by c.args.places.now c.args.x.now in
    let d = numbers_by c.args.places.now c.args.d.now in
    let here = move3 (λ (us : List Address) (p q : Address → Rational).
    All (λ v. EvaluationFits one_ℚ (f v) p × EvaluationFits zero_ℚ (f v) q) us
    × ((c.in_ok-both.both.values.items ≡ map (λ v. evaluated one_ℚ (f v) p) us)
    × (c.in_ok-both.both.entries.items ≡ map (λ v. evaluated zero_ℚ (f v) q) us)))
    c.in_ok-both.ensures (search rules) (c.point.ensures ∙ c.in_ok-leaf.ensures)
    (c.point-2.ensures ∙ c.in_ok-along.ensures) in
    let values : c.in_ok-both.both.values.items ≡ point m f x = here.1.0 ∙ point_is m f x in
    let entries : c.in_ok-both.both.entries.items ≡ ray m f d = here.1.1 ∙ ray_is m f d in
    (here.0, (cc (values, entries)))
