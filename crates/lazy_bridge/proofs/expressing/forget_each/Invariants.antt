use Rattle.std.proofs.Common.{◌≡◌, None, false, take}
use Rattle.lazy_bridge.specs.Expressed.{SetsAt, expr_at, is_marked}
use Rattle.lazy_bridge.proofs.Variables.{numbered}
use Rattle.lazy_bridge.proofs.expressing.forget_each.Given as goal

abbrev pub invariant-loop-var : goal.invariant-loop-var
invariant-loop-var l =
    SetsAt (λ _. None) (numbered (take l.var-index l.vars)) (expr_at l.fn.map) (expr_at l.map)
    × SetsAt (λ _. false) (numbered (take l.var-index l.vars)) (is_marked l.fn.map) (is_marked l.map)
    × (l.map.vars ≡ l.fn.map.vars) × (l.map.rows ≡ l.fn.map.rows)
    × (l.map.noted ≡ l.fn.map.noted)
