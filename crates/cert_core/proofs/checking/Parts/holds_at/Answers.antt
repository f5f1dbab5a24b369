use Rattle.std.specs.Prelude.{◌↔◌, IsTrue, Ok, Err}
use Rattle.ratio_core.specs.AnsweredLaws.{passed_on}
use Rattle.aff_core.specs.Points.{spread}
use Rattle.cert_core.specs.Checked.{model_of}
use Rattle.cert_core.specs.Folds.{PointFits}
use Rattle.cert_core.specs.Holding.{ModelHoldsAt}
use Rattle.cert_core.specs.Points.{numbers_in}
use Rattle.cert_core.specs.Readings.{one_of}
use Rattle.certificates.specs.Points.{all_addresses}
use Rattle.cert_core.proofs.Assembled.{numbers_of_model, point_told, rows_told}
use Rattle.cert_core.proofs.Tested.{all_two, iff_trans}
use Rattle.cert_core.proofs.checking.Parts.holds_at.Goals as goal

pub returns-in_err-rows : goal.returns-in_err-rows
returns-in_err-rows c = λ next.
    let groups = c.args.self.now.groups.now.items in
    let rows = c.args.self.now.rows.now.items in
    let x = c.args.x.now in
    let one = one_of c.args.reading in
    let model = model_of groups rows c.args.self.now.objective.now next in
    passed_on c.from_residual.result c.in_err-rows.field-0.0 _ (PointFits model one x)
    (λ holds. IsTrue holds ↔ ModelHoldsAt model one x) _ c.from_residual.ensures.1
    (rows_told groups c.args.self.now.variables c.requires.ready.variables x
    (numbers_in c.new-at.result) c.new-at.ensures (Err c.in_err-rows.field-0.0) rows one
    c.in_err-rows.ensures) (λ fits. fits.rows)

pub returns-in_err-groups : goal.returns-in_err-groups
returns-in_err-groups c = λ next.
    let groups = c.args.self.now.groups.now.items in
    let rows = c.args.self.now.rows.now.items in
    let x = c.args.x.now in
    let one = one_of c.args.reading in
    let model = model_of groups rows c.args.self.now.objective.now next in
    let point = spread (all_addresses groups) x in
    let x_is = numbers_of_model groups rows c.args.self.now.variables x c.requires.ready
    c.requires.size in
    passed_on c.from_residual-in_err-groups.result c.in_err-groups.field-0.0 _
    (PointFits model one x) (λ holds. IsTrue holds ↔ ModelHoldsAt model one x) _
    c.from_residual-in_err-groups.ensures.1 (c.in_err-groups.ensures point x_is)
    (λ fits. fits.groups)

pub returns : goal.returns
returns c = λ next.
    let groups = c.args.self.now.groups.now.items in
    let rows = c.args.self.now.rows.now.items in
    let x = c.args.x.now in
    let one = one_of c.args.reading in
    let model = model_of groups rows c.args.self.now.objective.now next in
    let point = spread (all_addresses groups) x in
    let x_is = numbers_of_model groups rows c.args.self.now.variables x c.requires.ready
    c.requires.size in
    let a = c.in_ok-rows.rows in
    let b = c.in_ok-groups.groups in
    point_told model one x a b c.all_true.result
    (rows_told groups c.args.self.now.variables c.requires.ready.variables x
    (numbers_in c.new-at.result) c.new-at.ensures (Ok a) rows one c.in_ok-rows.ensures)
    (c.in_ok-groups.ensures point x_is)
    (iff_trans _ _ _ c.all_true.ensures (all_two a b))
