use Rattle.std.proofs.Common.{◌≡◌, filter, take}
use Rattle.aff_core.specs.Terms.{TimesFit, is_nonzero, times}
use Rattle.aff_core.proofs.terms.scaled_terms.Given as goal

-- the products so far that are not 0
abbrev pub invariant-loop-key : goal.invariant-loop-key
invariant-loop-key g l = record {
  items : l.scaled.items ≡ filter is_nonzero (times l.by (take l.key-index l.terms));
  fit : TimesFit l.by (take l.key-index l.terms);
}
