use Rattle.std.proofs.Common.{drop}
use Rattle.cert_core.proofs.Adding.{TermsAsAll}
use Rattle.cert_core.proofs.adjoint.add_multiple.Given as goal

abbrev pub invariant-loop-at : goal.invariant-loop-at
invariant-loop-at l =
    TermsAsAll l.variables l.fn.sums l.sums l.by l.terms (drop l.at-index l.terms)
