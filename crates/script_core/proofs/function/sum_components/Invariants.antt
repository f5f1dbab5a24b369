use Rattle.std.proofs.Common.{◌≡◌}
use Rattle.std.specs.Vec.Iter.{into_iter_items}
use Rattle.script_core.specs.Sums.{function_of, functions_of}
use Rattle.script_tokens.specs.Each.{each_after}
use Rattle.script_core.proofs.function.sum_components.Given as goal

abbrev pub invariant-loop-terms : goal.invariant-loop-terms
invariant-loop-terms l =
    each_after function_of l.functions.items (into_iter_items l.terms-iterator) ≡ functions_of
    l.fn.components
