use Rattle.std.proofs.Common.{subst, sym}
use Rattle.aff_core.specs.FunctionLists.{coefficients}
use Rattle.cert_core.specs.Adding.{AddsAt}
use Rattle.cert_core.specs.Components.{functions_in}
use Rattle.cert_core.specs.Folds.{products}
use Rattle.cert_core.proofs.adjoint.add_components.Goals as goal

pub returns-in-Variables : goal.returns-in-Variables
returns-in-Variables c =
    subst (λ k. AddsAt c.add_variables.result c.args.variables.now c.args.sums.now
    c.add_variables.new.sums (λ v. products c.args.duals.now (coefficients (functions_in k) v)))
    (sym c.in-Variables.is) c.add_variables.ensures

pub returns-in-Functions : goal.returns-in-Functions
returns-in-Functions c =
    subst (λ k. AddsAt c.add_functions.result c.args.variables.now c.args.sums.now
    c.add_functions.new.sums (λ v. products c.args.duals.now (coefficients (functions_in k) v)))
    (sym c.in-Functions.is) c.add_functions.ensures
