use Rattle.std.proofs.Common.{◌≡◌, ◌+◌, drop}
use Rattle.model_catalog.specs.Terms.{changed_terms}
use Rattle.model_catalog.proofs.terms.changed_terms.Given as goal

abbrev pub invariant-loop-change : goal.invariant-loop-change
invariant-loop-change l =
    l.count + changed_terms (drop l.change-index l.changes) ≡ changed_terms l.changes
