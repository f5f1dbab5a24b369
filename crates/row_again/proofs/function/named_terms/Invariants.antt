use Rattle.std.proofs.Common.{◌≡◌, ◌++◌, drop, map}
use Rattle.mof_laws.specs.ReadBack.{named_term}
use Rattle.mof_write.specs.Written.{naming}
use Rattle.row_again.proofs.function.named_terms.Given as goal

abbrev pub invariant-loop-var : goal.invariant-loop-var
invariant-loop-var l =
    l.named ++ map (named_term (naming l.model.model)) (drop l.var-index l.terms)
    ≡ map (named_term (naming l.model.model)) l.terms
