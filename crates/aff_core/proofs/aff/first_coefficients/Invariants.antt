use Rattle.std.proofs.Common.{◌≡◌, List, ◌++◌}
use Rattle.std.specs.FinMap.{from_entries}
use Rattle.ratio_core.specs.Rational.{Rational}
use Rattle.aff_core.specs.Address.{Address, address_cmp}
use Rattle.aff_core.proofs.aff.first_coefficients.Given as goal

-- the terms that were taken, from the last on, and the map of them
abbrev pub invariant-loop-term : goal.invariant-loop-term
invariant-loop-term l =
    (taken : List (Address × Rational)) × (l.terms ≡ l.term-iterator.iter.rest.now ++ taken)
    × (l.point ≡ from_entries {R = address_cmp} taken)
