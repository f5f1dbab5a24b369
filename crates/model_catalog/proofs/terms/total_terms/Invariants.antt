use Rattle.std.proofs.Common.{◌≡◌, ◌+◌, drop, map, sum}
use Rattle.user_model.specs.Functions.{term_count}
use Rattle.model_catalog.proofs.terms.total_terms.Given as goal

abbrev pub invariant-loop-f : goal.invariant-loop-f
invariant-loop-f l =
    l.count + sum (map term_count (drop l.f-index l.functions)) ≡ sum (map term_count l.functions)
