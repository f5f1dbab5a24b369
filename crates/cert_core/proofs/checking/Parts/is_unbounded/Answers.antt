use Rattle.std.specs.Prelude.{◌↔◌, IsTrue, Ok}
use Rattle.std.proofs.Common.{subst}
use Rattle.ratio_core.specs.Rational.{zero_ℚ}
use Rattle.certificates.specs.Feasible.{IsBetter}
use Rattle.certificates.specs.Points.{objective_function}
use Rattle.cert_core.specs.Checked.{model_of}
use Rattle.cert_core.specs.Points.{numbers_in}
use Rattle.cert_core.proofs.Assembled.{objective_told, size_of_model}
use Rattle.cert_core.proofs.Judged.{is_unbounded}
use Rattle.cert_core.proofs.Tested.{all_three, iff_trans}
use Rattle.cert_core.proofs.checking.Parts.is_unbounded.Goals as goal

pub returns : goal.returns
returns c = λ next.
    let groups = c.args.self.now.groups.now.items in
    let rows = c.args.self.now.rows.now.items in
    let objective = c.args.self.now.objective.now in
    let us = c.args.self.now.variables in
    let model = model_of groups rows objective next in
    let x = c.args.x.now in
    let d = c.args.d.now in
    let point = c.in_ok-feasible.ensures next in
    let along = c.in_ok-ray.ensures next in
    let slope = objective_told groups us c.requires.ready.variables d
    (numbers_in c.new-along.result) c.new-along.ensures (Ok c.in_ok-slope.slope)
    (objective_function objective) zero_ℚ c.in_ok-slope.ensures in
    is_unbounded model c.in_ok-slope.slope x d c.in_ok-feasible.feasible c.in_ok-ray.ray
    c.improves-is_better.result c.all_true.result
    (size_of_model groups rows us x c.requires.ready c.requires.point)
    (size_of_model groups rows us d c.requires.ready c.requires.ray) point.0 point.1 along.0 along.1
    slope.0 slope.1
    (subst (λ s. IsTrue c.improves-is_better.result ↔ IsBetter s c.in_ok-slope.slope zero_ℚ)
    c.sense.ensures c.improves-is_better.ensures)
    (iff_trans _ _ _ c.all_true.ensures (all_three c.in_ok-feasible.feasible c.in_ok-ray.ray
    c.improves-is_better.result))
