use Rattle.std.proofs.Common.{◌≡◌, ◌++◌, drop}
use Rattle.std.specs.Prelude.{flat_map}
use Rattle.found_plan.specs.Read.{named_in, read_entries}
use Rattle.found_plan.proofs.standing.read_functions.Given as goal

abbrev pub invariant-loop-func : goal.invariant-loop-func
invariant-loop-func l =
    l.entries.items ++ read_entries l.map (flat_map named_in (drop l.func-index l.funcs))
    ≡ l.fn.entries.items ++ read_entries l.map (flat_map named_in l.funcs)
