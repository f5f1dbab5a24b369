use Rattle.std.proofs.Common.{◌≡◌, drop}
use Rattle.named_aff.specs.Entries.{has_variable}
use Rattle.named_aff.proofs.sum.has_variable.Given as goal

abbrev pub invariant-loop-term : goal.invariant-loop-term
invariant-loop-term l =
    has_variable (drop l.term-index l.terms) l.name ≡ has_variable l.terms l.name
