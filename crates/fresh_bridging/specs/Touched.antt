-- What an incremental bridging has to look at: the user's items that a change touches, and the
-- bridged items below them.
use Rattle.std.specs.Prelude.{◌≡◌, ◌≢◌, ◌⊎◌, ◌+◌, ℕ, List, find, Option, Some, IsSome}
use Rattle.std.specs.FinMap as finite
use Rattle.aff_core.specs.Address.{Address, address_eq, root_address}
use Rattle.bridge_graph.specs.declared.Choice.{Choice}
use Rattle.expansion.specs.Bridged.{EachBridged, EachBridgedIn, each, each_in, none, none_in}
use Rattle.expansion.specs.Kept.{KeepsChoices}
use Rattle.expansion.specs.Rules.{Rules}
use Rattle.item_core.specs.declared.item.Item.{Item}
use Rattle.item_core.specs.Item.{functions_of}
use Rattle.item_core.specs.Kind.{kind_number}
use Rattle.item_core.specs.KindOf.{kind_of_body}
use Rattle.leaf_model.specs.LeafModel.{IsCountOf}
use Rattle.user_model.specs.Model.{ModelValue}
use Rattle.bridge_face.specs.Law.{Miss}
use Rattle.fresh_bridging.specs.Entries.{Entry}
use Rattle.fresh_bridging.specs.FreshBridging.{FreshBridging, expression_of, nodes_of}
use Rattle.fresh_bridging.specs.ModelImage.{items_of}
use Rattle.fresh_bridging.specs.TheRules.{Setting}

-- the user's item at an address
abbrev pub item_at : ModelValue → Address → Option Item
item_at model at = find (λ item. address_eq item.at at) (items_of model)

-- it names the variable
abbrev pub Mentions : ModelValue → Address → Address → Type 0
Mentions model at var =
    (item : Item) × (item_at model at ≡ Some item) × ¬ (Miss (functions_of item.body) var)

-- ---- the choice at each node and leaf below an item

module _ {rules : Rules Item Entry} (choice : Item → Choice) (at : Address) where
  -- of the items at the address: the other choice is the same at each node and leaf
  unfoldable pub KeepsAtEach : {items : List Item} {entries : List Entry}
      → EachBridged rules items entries → Type 0
  KeepsAtEach none = Unit {0}
  KeepsAtEach (each {item} first rest) = (item.at ≡ at → KeepsChoices choice first) × KeepsAtEach rest

  unfoldable pub KeepsAtIn : {inner : List Entry} {items : List Item}
      → EachBridgedIn rules inner items → Type 0
  KeepsAtIn none_in = Unit {0}
  KeepsAtIn (each_in {item} first rest) = (item.at ≡ at → KeepsChoices choice first) × KeepsAtIn rest

abbrev pub choice_of_item : (ℕ → Choice) → Item → Choice
choice_of_item choice item = choice (kind_number (kind_of_body item.body))

module _ {setting next : Setting} {model after : ModelValue}
    (old : FreshBridging setting model) (new : FreshBridging next after) where
  -- at the nodes and leaves below the old item the new choice is the same
  pub record ChoosesAlike (at : Address) : Type 0 where
    pub groups : KeepsAtEach (choice_of_item new.choice) at old.made.groups
    pub others : KeepsAtIn (choice_of_item new.choice) at old.made.others

module _ {setting next : Setting} {model after : ModelValue}
    (old : FreshBridging setting model) (new : FreshBridging next after) where
  -- an item of the user's that a change touches; where nothing was bridged, the model is empty
  pub data IsTouched (at : Address) : Type 0 where
    -- it stands on one side alone, or its content differs
    differs : item_at model at ≢ item_at after at → IsTouched at
    -- a variable that it names has another expression, or is kept on one side alone
    named : (var : Address) → (Mentions model at var ⊎ Mentions after at var)
        → expression_of old var ≢ expression_of new var → IsTouched at
    -- a node or a leaf below it is of a kind that has another choice
    chosen : (¬ ChoosesAlike old new at ⊎ ¬ ChoosesAlike new old at) → IsTouched at

  abbrev pub root_of : Address → Address
  root_of at = root_address at.root at.number

  -- the bridged items below the touched ones, before and after
  pub record IsInner (n : ℕ) : Type 0 where
    pub before : ℕ
    pub behind : ℕ
    pub before_is :
        IsCountOf (λ at. IsSome (finite.get (nodes_of old) at) × IsTouched (root_of at)) before
    pub behind_is :
        IsCountOf (λ at. IsSome (finite.get (nodes_of new) at) × IsTouched (root_of at)) behind
    pub all : n ≡ before + behind
