use Rattle.std.proofs.Common.{◌≡◌, ◌++◌, drop, map}
use Rattle.std.specs.List.{list_all}
use Rattle.aff_core.specs.Arithmetic.{composed}
use Rattle.fresh_bridging.specs.Entries.{function_in}
use Rattle.fresh_bridging.specs.FitTests.{substitution_fits}
use Rattle.bridge_plan.proofs.standing.Standing.each_composed.Given as goal

abbrev pub invariant-loop-func : goal.invariant-loop-func
invariant-loop-func l =
    let e = function_in l.fn.self in
    (list_all (substitution_fits e) (drop l.func-index l.funcs)
    ≡ list_all (substitution_fits e) l.funcs)
    × (l.made.items ++ map (composed e) (drop l.func-index l.funcs) ≡ map (composed e) l.funcs)
    × (l.self ≡ l.fn.self)
