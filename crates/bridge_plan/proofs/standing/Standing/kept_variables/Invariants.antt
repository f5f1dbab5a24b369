use Rattle.std.proofs.Common.{◌≡◌, ◌++◌, drop, map}
use Rattle.std.specs.List.{list_all}
use Rattle.fresh_bridging.specs.Entries.{expression_in, is_kept, kept_in}
use Rattle.bridge_plan.proofs.standing.Standing.kept_variables.Given as goal

abbrev pub invariant-loop-var : goal.invariant-loop-var
invariant-loop-var l =
    let all = map (expression_in l.self) l.vars in
    let left = map (expression_in l.self) (drop l.var-index l.vars) in
    (list_all is_kept left ≡ list_all is_kept all) × (l.kept.items ++ kept_in left ≡ kept_in all)
