use Rattle.std.proofs.Common.{◌≡◌, Some, map, take}
use Rattle.fresh_bridging.specs.Entries.{expression_in, function_in, is_kept}
use Rattle.lazy_bridge.specs.Expressed.{SetsAt, expr_at, is_marked}
use Rattle.touched_items.specs.Differences.{variables_in}
use Rattle.lazy_bridge.proofs.expressing.express_groups.Given as goal

abbrev pub invariant-loop-group : goal.invariant-loop-group
invariant-loop-group l =
    SetsAt (λ v. Some (function_in l.standing v)) (variables_in (map (λ g. g.now) (take l.group-index l.groups))) (expr_at l.fn.map) (expr_at l.map)
    × SetsAt (λ v. is_kept (expression_in l.standing v)) (variables_in (map (λ g. g.now) (take l.group-index l.groups))) (is_marked l.fn.map) (is_marked l.map)
    × (l.map.vars ≡ l.fn.map.vars) × (l.map.rows ≡ l.fn.map.rows)
    × (l.map.noted ≡ l.fn.map.noted)
