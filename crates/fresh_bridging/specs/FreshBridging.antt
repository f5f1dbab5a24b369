-- The fresh bridging of a user's model by a table and the families that have a bridge: each
-- item natively, or by the first edge of a least-cost tree of its kind. It is what
-- MathOptInterface's lazy bridging makes of a model that is copied into it.
use Rattle.std.specs.Prelude.{◌≡◌, ℕ, Bool, ◌&&◌, ◌++◌, List, ◌∷◌, All, Option, map}
use Rattle.std.specs.FinMap as finite
use Rattle.std.specs.FinMap.{FinMap}
use Rattle.std.specs.Option.{option_map, option_or}
use Rattle.aff_core.specs.Address.{Address, address_cmp}
use Rattle.bridge_graph.specs.Hypergraph.{Hypergraph}
use Rattle.bridge_graph.specs.Tree.{IsTreeless, Tree}
use Rattle.bridge_graph.specs.declared.Choice.{Choice}
use Rattle.expansion.specs.Bridged.{EachBridged, Fresh}
use Rattle.expansion.specs.Read.{fits_each, fits_in, model_leaves, model_nodes, unfit_each, unfit_in}
use Rattle.item_core.specs.declared.image.Expression.{Expression}
use Rattle.item_core.specs.declared.item.Item.{Item}
use Rattle.item_core.specs.declared.kind.Kind.{Kind}
use Rattle.item_core.specs.Kind.{kind_number}
use Rattle.item_core.specs.KindOf.{kind_of_body}
use Rattle.leaf_model.specs.LeafModel.{LeafModel}
use Rattle.user_model.specs.Model.{ModelValue}
use Rattle.fresh_bridging.specs.Entries.{expression_in, put_in}
use Rattle.fresh_bridging.specs.Leaves.{leaf_model_of}
use Rattle.fresh_bridging.specs.ModelImage.{model_image}
use Rattle.fresh_bridging.specs.TheRules.{AreChoices, Setting, graph_of, rules_by}

pub record FreshBridging (setting : Setting) (model : ModelValue) : Type 0 where
  pub choice : ℕ → Choice
  pub chosen : AreChoices setting choice
  pub made : Fresh (rules_by choice) (model_image model)

module _ {setting : Setting} {model : ModelValue} (bridging : FreshBridging setting model) where
  -- what the solver's model is to be
  abbrev pub leaves_of : LeafModel
  leaves_of = leaf_model_of (model_leaves bridging.made)

  -- the bridged items with the numbers of their edges, by address
  abbrev pub nodes_of : FinMap address_cmp (ℕ × Item)
  nodes_of = finite.from_entries (map (λ n. (n.1.at, n)) (model_nodes bridging.made))

  -- what stands for one of the user's variables
  abbrev pub expression_of : Address → Expression
  expression_of var = expression_in bridging.made.entries var

  -- every number that it is made with fits
  abbrev pub is_made : Bool
  is_made = fits_each bridging.made.groups && fits_in bridging.made.others

  -- the address of the first of the user's items at which, itself or below it, a number doesn't fit
  abbrev pub unfit_at : Option Address
  unfit_at =
      option_map (λ item. item.at)
      (option_or (unfit_each bridging.made.groups) (unfit_in bridging.made.others))

-- ---- where there is none

abbrev pub HasTree : Hypergraph → Item → Type 0
HasTree graph item = (cost : ℕ) × Tree graph (kind_number (kind_of_body item.body)) cost

-- the first of the items whose kind has no tree is of this kind
pub record IsFirstTreeless (graph : Hypergraph) (items : List Item) (kind : Kind) : Type 0 where
  pub before : List Item
  pub item : Item
  pub after : List Item
  pub parts : items ≡ before ++ item ∷ after
  pub earlier : All (HasTree graph) before
  pub none : IsTreeless graph (kind_number (kind_of_body item.body))
  pub kind_is : kind ≡ kind_of_body item.body

-- the first of the user's items without a tree is of this kind: a group, or, once each group is
-- bridged, a row or the objective with the groups' expressions put in
pub data IsUnsupported (setting : Setting) (model : ModelValue) (kind : Kind) : Type 0 where
  by_group : IsFirstTreeless (graph_of setting) (model_image model).groups kind
      → IsUnsupported setting model kind
  by_other : (choice : ℕ → Choice) → AreChoices setting choice
      → (entries : _) → EachBridged (rules_by choice) (model_image model).groups entries
      → IsFirstTreeless (graph_of setting) (map (put_in entries) (model_image model).others) kind
      → IsUnsupported setting model kind
