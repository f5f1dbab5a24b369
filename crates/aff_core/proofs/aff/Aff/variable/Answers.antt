use Rattle.std.proofs.Common.{◌∙◌, refl, [], ◌∷◌}
use Rattle.std.proofs.lemmas.Result.{IfOk-weaker}
use Rattle.aff_core.specs.Function.{function_of, variable}
use Rattle.aff_core.proofs.aff.Aff.variable.Goals as goal

pub from_terms-requires : goal.from_terms-requires
from_terms-requires c = record { rising = refl }

pub returns : goal.returns
unfolding variable
returns c =
    IfOk-weaker c.from_terms.result _ _ (λ f e. e
    ∙ (λ i. function_of ((c.args.at.now, c.one.ensures i) ∷ []) (c.zero.ensures i)))
    c.from_terms.ensures
