use Rattle.std.proofs.Common.{◌≡◌, drop}
use Rattle.aff_core.specs.Function.{terms_of}
use Rattle.lazy_bridge.proofs.Noting.{IsNoting, term_names}
use Rattle.lazy_bridge.proofs.mentions.note_terms.Given as goal

abbrev pub invariant-loop-var : goal.invariant-loop-var
invariant-loop-var l =
    IsNoting (term_names l.item) l.noted (terms_of l.func) (drop l.var-index (terms_of l.func))
    l.fn.map.noted l.map.noted
    × (l.map.vars ≡ l.fn.map.vars) × (l.map.rows ≡ l.fn.map.rows)
    × (l.map.exprs ≡ l.fn.map.exprs) × (l.map.kept ≡ l.fn.map.kept)
