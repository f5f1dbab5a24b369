use Rattle.std.proofs.Common.{◌≡◌, drop}
use Rattle.lazy_bridge.proofs.Noting.{IsNoting, function_names}
use Rattle.lazy_bridge.proofs.mentions.note_components.Given as goal

abbrev pub invariant-loop-func : goal.invariant-loop-func
invariant-loop-func l =
    IsNoting (function_names l.item) l.noted l.funcs (drop l.func-index l.funcs) l.fn.map.noted
    l.map.noted
    × (l.map.vars ≡ l.fn.map.vars) × (l.map.rows ≡ l.fn.map.rows)
    × (l.map.exprs ≡ l.fn.map.exprs) × (l.map.kept ≡ l.fn.map.kept)
