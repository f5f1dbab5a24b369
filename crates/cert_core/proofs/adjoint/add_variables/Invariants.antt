use Rattle.std.proofs.Common.{drop}
use Rattle.aff_core.specs.FunctionLists.{coefficients}
use Rattle.certificates.specs.Points.{variables_at}
use Rattle.cert_core.specs.Folds.{products}
use Rattle.cert_core.proofs.Adding.{AddsAsAll}
use Rattle.cert_core.proofs.adjoint.add_variables.Given as goal

abbrev pub invariant-loop-i : goal.invariant-loop-i
invariant-loop-i l =
    AddsAsAll l.variables l.fn.sums l.sums
    (λ v. products l.duals (coefficients (variables_at l.vars) v))
    (λ v. products (drop l.i l.duals) (coefficients (variables_at (drop l.i l.vars)) v))
