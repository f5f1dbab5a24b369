use Rattle.std.specs.Prelude.{◌+◌, [], ◌∷◌}
use Rattle.std.proofs.Common.{drop}
use Rattle.ratio_core.specs.Rational.{◌*ℚ◌}
use Rattle.aff_core.specs.FunctionLists.{coefficients}
use Rattle.certificates.specs.Points.{variables_at}
use Rattle.cert_core.specs.Adding.{coefficient_among}
use Rattle.cert_core.specs.Folds.{products}
use Rattle.cert_core.proofs.Adding.{adds_end, adds_passed, adds_refused, adds_step, next_variable, no_variable}
use Rattle.cert_core.proofs.adjoint.add_variables.Goals as goal

pub returns-in_err-add_multiple : goal.returns-in_err-add_multiple
returns-in_err-add_multiple c =
    let w = c.args.duals.now in
    let xs = c.args.vars.now in
    let i = c.loop-i.i in
    let next = next_variable w xs i c.index-duals-i.result c.index-vars-i.result c.one.result
    c.one.ensures c.requires.duals
    c.index-duals-i.is c.index-vars-i.is c.loop-i-test.true in
    adds_passed c.from_residual.result c.in_err-add_multiple.field-0.0 c.args.variables.now
    c.args.sums.now c.add_multiple.new.sums (λ v. products w (coefficients (variables_at xs) v))
    c.from_residual.ensures.1
    (adds_refused c.args.variables.now c.args.sums.now
    (λ v. products w (coefficients (variables_at xs) v)) c.loop-i.sums
    (λ v. products (drop i w) (coefficients (variables_at (drop i xs)) v))
    (λ v. c.index-duals-i.result *ℚ coefficient_among ((c.index-vars-i.result, c.one.result) ∷ []) v
    ∷ [])
    (λ v. products (drop (i + 1) w) (coefficients (variables_at (drop (i + 1) xs)) v))
    c.loop-i.invariant next c.in_err-add_multiple.field-0.0 c.add_multiple.new.sums
    c.add_multiple.new.sums c.in_err-add_multiple.ensures)

pub loop-i-preserved : goal.loop-i-preserved
loop-i-preserved c =
    let w = c.args.duals.now in
    let xs = c.args.vars.now in
    let i = c.loop-i.i in
    let next = next_variable w xs i c.index-duals-i.result c.index-vars-i.result c.one.result
    c.one.ensures c.requires.duals
    c.index-duals-i.is c.index-vars-i.is c.loop-i-test.true in
    adds_step c.args.variables.now c.args.sums.now
    (λ v. products w (coefficients (variables_at xs) v)) c.loop-i.sums
    (λ v. products (drop i w) (coefficients (variables_at (drop i xs)) v))
    (λ v. c.index-duals-i.result *ℚ coefficient_among ((c.index-vars-i.result, c.one.result) ∷ []) v
    ∷ [])
    (λ v. products (drop (i + 1) w) (coefficients (variables_at (drop (i + 1) xs)) v))
    c.loop-i.invariant next c.add_multiple.new.sums c.in_ok-add_multiple.ensures

pub returns : goal.returns
returns c =
    let w = c.args.duals.now in
    let xs = c.args.vars.now in
    let i = c.loop-i.i in
    adds_end c.args.variables.now c.args.sums.now
    (λ v. products w (coefficients (variables_at xs) v))
    c.loop-i.sums (λ v. products (drop i w) (coefficients (variables_at (drop i xs)) v))
    c.loop-i.invariant (no_variable w xs i c.loop-i-test.false)
