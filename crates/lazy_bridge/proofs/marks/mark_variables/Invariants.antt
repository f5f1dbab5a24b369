use Rattle.std.proofs.Common.{◌≡◌, take}
use Rattle.lazy_bridge.specs.Mentioned.{marks_of}
use Rattle.lazy_bridge.proofs.marks.mark_variables.Given as goal

abbrev pub invariant-loop-var : goal.invariant-loop-var
invariant-loop-var l =
    (l.map.kept ≡ marks_of (take l.var-index l.kept))
    × (l.map.vars ≡ l.fn.map.vars) × (l.map.rows ≡ l.fn.map.rows)
    × (l.map.exprs ≡ l.fn.map.exprs) × (l.map.noted ≡ l.fn.map.noted)
