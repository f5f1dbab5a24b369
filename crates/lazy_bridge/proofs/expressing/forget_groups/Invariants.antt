use Rattle.std.proofs.Common.{◌≡◌, None, false, map, take}
use Rattle.lazy_bridge.specs.Expressed.{SetsAt, expr_at, is_marked}
use Rattle.touched_items.specs.Differences.{variables_in}
use Rattle.lazy_bridge.proofs.expressing.forget_groups.Given as goal

abbrev pub invariant-loop-group : goal.invariant-loop-group
invariant-loop-group l =
    SetsAt (λ _. None) (variables_in (map (λ g. g.now) (take l.group-index l.groups))) (expr_at l.fn.map) (expr_at l.map)
    × SetsAt (λ _. false) (variables_in (map (λ g. g.now) (take l.group-index l.groups))) (is_marked l.fn.map) (is_marked l.map)
    × (l.map.vars ≡ l.fn.map.vars) × (l.map.rows ≡ l.fn.map.rows)
    × (l.map.noted ≡ l.fn.map.noted)
