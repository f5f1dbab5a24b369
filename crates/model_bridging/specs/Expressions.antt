-- The expressions of a fresh bridging, as a map of addresses keeps them.
use Rattle.std.specs.Prelude.{map}
use Rattle.std.specs.FinMap as finite
use Rattle.std.specs.FinMap.{FinMap}
use Rattle.aff_core.specs.Address.{address_cmp}
use Rattle.aff_core.specs.Function.{Function}
use Rattle.bridge_face.specs.Law.{expressed}
use Rattle.fresh_bridging.specs.FreshBridging.{FreshBridging, expression_of}
use Rattle.fresh_bridging.specs.TheRules.{Setting}
use Rattle.model_bridging.specs.Planned.{variables_of_the_model}
use Rattle.user_model.specs.Model.{ModelValue}

-- that of each of the user's variables, as a function
abbrev pub expressions_by : {setting : Setting} {model : ModelValue}
    → FreshBridging setting model → FinMap address_cmp Function
expressions_by {model = model} bridging =
    finite.from_entries (map (λ v. (v, expressed (expression_of bridging v)))
    (variables_of_the_model model))
