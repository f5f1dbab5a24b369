-- A model has one fresh bridging at most, up to the reasons why its choices are the table's.
use Rattle.std.specs.Prelude.{◌≡◌}
use Rattle.std.proofs.Common.{ap, subst}
use Rattle.bridge_graph.specs.Hypergraph.{IsCostly}
use Rattle.expansion.specs.Bridged.{Fresh}
use Rattle.fresh_bridging.specs.FreshBridging.{FreshBridging}
use Rattle.fresh_bridging.specs.ModelImage.{model_image}
use Rattle.fresh_bridging.specs.TheRules.{AreChoices, Setting, graph_of, rules_by}
use Rattle.fresh_bridging.specs.OnceLaws.{same_choices}
use Rattle.user_model.specs.Model.{ModelValue}
use Rattle.one_answer_laws.specs.OneTreeLaws.{fresh_once}

module _ {setting : Setting} {model : ModelValue} where
  -- the bridging with these reasons
  abbrev pub by_reasons : (b : FreshBridging setting model) → AreChoices setting b.choice
      → FreshBridging setting model
  by_reasons b chosen = record { choice = b.choice; chosen = chosen; made = b.made }

  module _ (costly : IsCostly (graph_of setting)) where
    pub one_bridging : (one other : FreshBridging setting model)
        → (chosen : AreChoices setting other.choice) × (one ≡ by_reasons other chosen)
    one_bridging one other =
        subst
        (λ choice. (made : Fresh (rules_by choice) (model_image model))
        → (chosen : AreChoices setting choice)
        × (one ≡ record { choice = choice; chosen = chosen; made = made }))
        (same_choices setting model costly one other)
        (λ made. (
          one.chosen,
          ap (λ m. record { choice = one.choice; chosen = one.chosen; made = m })
              (fresh_once (rules_by one.choice) one.made made),
        ))
        other.made

    -- what holds of one, whatever the reasons, holds of any other
    pub of_any_bridging : (P : FreshBridging setting model → Type 0)
        → ((b : FreshBridging setting model) (chosen : AreChoices setting b.choice)
        → P (by_reasons b chosen) → P b)
        → (one other : FreshBridging setting model) → P one → P other
    of_any_bridging P apart one other p =
        let same = one_bridging one other in
        apart other same.0 (subst P same.1 p)
