use Rattle.std.proofs.Common.{◌≡◌, ◌++◌}
use Rattle.named_aff.specs.Distinct.{HasDistinctNames}
use Rattle.named_aff.specs.Entries.{terms_in}
use Rattle.named_aff.proofs.sum.named_terms.Given as goal

abbrev pub invariant-loop-variable : goal.invariant-loop-variable
invariant-loop-variable l = record {
  same : l.terms ++ terms_in l.variable-iterator ≡ terms_in l.fn.coefficients.entries;
  distinct : HasDistinctNames (terms_in l.fn.coefficients.entries);
}
