use Rattle.std.proofs.Common.{◌≡◌, take}
use Rattle.aff_core.specs.Function.{terms_of}
use Rattle.leaf_update.specs.Named.{indexed_terms}
use Rattle.leaf_update.proofs.indexed.indexed_terms.Given as goal

abbrev pub invariant-loop-at : goal.invariant-loop-at
invariant-loop-at l =
    l.terms.items ≡ indexed_terms l.map.vars.indices (take l.at-index (terms_of l.func))
