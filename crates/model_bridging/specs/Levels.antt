-- The user's items stand within as many levels as there are kinds.
use Rattle.std.specs.Prelude.{◌≡◌, ℕ, ◌<◌, List, All}
use Rattle.std.proofs.Common.{arith, ap, sym, ◌∙◌}
use Rattle.std.proofs.lemmas.List.Elements.{All-weaker}
use Rattle.bridge_graph.specs.Hypergraph.{IsCostly}
use Rattle.bridge_graph.specs.declared.Choice.{Choice}
use Rattle.bridge_graph.specs.declared.Choice.TheVariants.{By}
use Rattle.expansion.specs.Bridged.{EachBridged}
use Rattle.expansion.specs.Ranks.{RanksBelow}
use Rattle.item_core.specs.declared.item.Item.{Item}
use Rattle.item_core.specs.Edge.{edge_entry}
use Rattle.item_core.specs.Kind.{kind_count, kind_number}
use Rattle.item_core.specs.KindOf.{kind_of_body}
use Rattle.bridge_face.specs.Law.{IsItemFor}
use Rattle.user_model.specs.Model.{ModelValue}
use Rattle.user_model.specs.Valid.{IsValid}
use Rattle.fresh_bridging.specs.CanLaws.{AreLawful, Can, down, rank_of}
use Rattle.fresh_bridging.specs.Entries.{Entry, put_in}
use Rattle.fresh_bridging.specs.ExistenceLaws.{groups_can_all, others_can_all, ranked}
use Rattle.fresh_bridging.specs.FreshBridging.{HasTree}
use Rattle.fresh_bridging.specs.ModelImage.{model_image}
use Rattle.fresh_bridging.specs.OmitLaws.{IsGroup}
use Rattle.fresh_bridging.specs.RankingLaws.{at_most_34, fewer_below, ranked_below}
use Rattle.fresh_bridging.specs.TheRules.{AreChoices, Setting, edge_at, graph_of, rules_by}
use Rattle.bridge_plan.specs.Trees.{ranked_within}
use Rattle.bridge_plan.specs.Worked.{IsItemWithinLevels}

module _ (setting : Setting) (costly : IsCostly (graph_of setting)) (choice : ℕ → Choice)
    (chosen : AreChoices setting choice) (lawful : AreLawful setting) where
  abbrev CanHere : Item → Type 0
  CanHere item = Can setting costly choice chosen item

  abbrev rank_here : Item → ℕ
  rank_here item = rank_of setting costly choice chosen item

  abbrev level : Item → ℕ
  level item = ranked_below setting costly choice chosen (rank_here item)

  suits : (item : Item) (edge : ℕ) → CanHere item
      → choice (kind_number (kind_of_body item.body)) ≡ By edge → IsItemFor (edge_at edge) item
  suits item edge can e =
      let there = down setting costly choice chosen lawful item can edge e in
      record {
        valid = can.valid;
        kind = there.source
            ∙ sym (ap (λ x. x.source) (ap edge_entry there.is_entry.edge
            ∙ there.is_entry.entry_is));
      }

  lower : (item child : Item) → RanksBelow CanHere rank_here (rank_here item) child
      → level child < level item
  lower item child b =
      omega (
        arith,
        fewer_below setting costly choice chosen (kind_of_body child.body) (rank_here item)
            b.below,
      )

  pub can_within : (item : Item) → CanHere item → IsItemWithinLevels choice kind_count item
  can_within item can =
      ranked_within choice CanHere rank_here level
      (ranked setting costly choice chosen lawful) suits lower kind_count item can
      (omega (arith, at_most_34 setting costly choice chosen (kind_of_body item.body)))

  -- ---- the user's items

  module _ (model : ModelValue) (valid : IsValid model) where
    pub groups_within : All (HasTree (graph_of setting)) (model_image model).groups
        → All (IsItemWithinLevels choice kind_count) (model_image model).groups
    groups_within trees =
        All-weaker (IsGroup setting costly choice chosen lawful) (IsItemWithinLevels choice kind_count)
        (λ g h. can_within g h.can) (model_image model).groups
        (groups_can_all setting costly choice chosen lawful model valid trees)

    pub others_within : (inner : List Entry)
        → EachBridged (rules_by choice) (model_image model).groups inner
        → All (λ item. HasTree (graph_of setting) (put_in inner item)) (model_image model).others
        → All (λ item. IsItemWithinLevels choice kind_count (put_in inner item)) (model_image model).others
    others_within inner groups trees =
        All-weaker (λ item. CanHere (put_in inner item))
        (λ item. IsItemWithinLevels choice kind_count (put_in inner item))
        (λ item can. can_within (put_in inner item) can) (model_image model).others
        (others_can_all setting costly choice chosen lawful model valid inner groups trees)
