use Rattle.std.proofs.Common.{◌≡◌, filter, take}
use Rattle.aff_core.specs.Terms.{is_nonzero}
use Rattle.aff_core.proofs.terms.nonzero_terms.Given as goal

abbrev pub invariant-loop-key : goal.invariant-loop-key
invariant-loop-key g l = l.kept.items ≡ filter is_nonzero (take l.key-index l.terms)
