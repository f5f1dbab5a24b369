use Rattle.std.proofs.Common.{◌≡◌}
use Rattle.std.specs.Vec.Iter.{into_iter_items}
use Rattle.script_core.specs.Sums.{function_of, with_terms}
use Rattle.script_core.proofs.function.sum_terms.Given as goal

abbrev pub invariant-loop-term : goal.invariant-loop-term
invariant-loop-term l =
    with_terms l.sum (into_iter_items l.term-iterator) ≡ function_of l.fn.terms
