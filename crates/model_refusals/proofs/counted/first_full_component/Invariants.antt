use Rattle.std.proofs.Common.{◌≡◌, drop, map}
use Rattle.aff_core.specs.Function.{with_coefficient}
use Rattle.user_model.specs.Edited.{changed_at}
use Rattle.user_model.specs.Functions.{term_count}
use Rattle.user_model.specs.Limits.{TERMS}
use Rattle.user_model.specs.Refusals.{within}
use Rattle.model_refusals.proofs.Firsts.{first_full}
use Rattle.model_refusals.proofs.counted.first_full_component.Given as goal

-- no component so far has too many terms
abbrev pub invariant-loop-index : goal.invariant-loop-index
invariant-loop-index l =
    first_full (within TERMS (drop l.index
    (map term_count (changed_at l.place (λ f. with_coefficient f l.at l.value) l.funcs))))
    ≡ first_full (within TERMS (map term_count
    (changed_at l.place (λ f. with_coefficient f l.at l.value) l.funcs)))
