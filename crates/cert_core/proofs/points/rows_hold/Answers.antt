use Rattle.std.specs.Prelude.{◌↔◌, All, IsTrue}
use Rattle.ratio_core.specs.AnsweredLaws.{passed_on}
use Rattle.ratio_core.specs.Rational.{Rational}
use Rattle.aff_core.specs.Address.{Address}
use Rattle.user_model.specs.declared.row.Row.{Row}
use Rattle.certificates.specs.Points.{functions_of}
use Rattle.cert_core.specs.Folds.{FitIn}
use Rattle.cert_core.specs.Holding.{FunctionsHold}
use Rattle.cert_core.specs.Points.{numbers_in}
use Rattle.cert_core.specs.Readings.{one_of}
use Rattle.cert_core.proofs.Tested.{tested_end, tested_refused, tested_step}
use Rattle.cert_core.proofs.points.rows_hold.Goals as goal

abbrev F : Rational → (Address → Rational) → Row → Type 0
F one x r = FitIn one r.set (functions_of r.func) x

abbrev P : Rational → (Address → Rational) → Row → Type 0
P one x r = FunctionsHold one r.set (functions_of r.func) x

pub returns-in_err-holds : goal.returns-in_err-holds
returns-in_err-holds c =
    let one = one_of c.args.reading in
    let x = numbers_in c.args.at.now in
    let rows = c.args.rows.now.items in
    let r = c.in-Some.row.now in
    passed_on c.from_residual.result c.in_err-holds.field-0.0 (F one x r) (All (F one x) rows)
    (λ holds. IsTrue holds ↔ All (P one x) rows) (λ holds. IsTrue holds ↔ P one x r)
    c.from_residual.ensures.1 c.in_err-holds.ensures
    (tested_refused (F one x) (P one x) c.loop-row.all rows c.loop-row.row-iterator
    c.next.new.self r c.loop-row.invariant c.in-Some.ensures.steps)

pub loop-row-preserved : goal.loop-row-preserved
loop-row-preserved c =
    let one = one_of c.args.reading in
    let x = numbers_in c.args.at.now in
    let rows = c.args.rows.now.items in
    let r = c.in-Some.row.now in
    let next = c.in-Some.ensures.steps in
    tested_step (F one x) (P one x) c.loop-row.all c.in_ok-holds.holds rows
    c.loop-row.row-iterator c.next.new.self r c.loop-row.invariant next c.in_ok-holds.ensures.0
    c.in_ok-holds.ensures.1

pub returns : goal.returns
returns c =
    let one = one_of c.args.reading in
    let x = numbers_in c.args.at.now in
    tested_end (F one x) (P one x) c.loop-row.all c.args.rows.now.items
    c.loop-row.row-iterator c.loop-row.invariant
    c.in-None.ensures.steps.0
