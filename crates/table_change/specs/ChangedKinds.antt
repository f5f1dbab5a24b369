-- Kinds that are bridged otherwise by other choices.
--     same_choice     two choices are one
--     led_to          the kinds that a choice leads to
--     is_changed      the other choice of the kind isn't the same, or that of a kind to which the choices
--                     lead from it, on some levels
use Rattle.std.specs.Prelude.{◌==◌, ◌||◌, ℕ, zero, suc, Bool, true, false, not, List, []}
use Rattle.std.specs.List.{list_any}
use Rattle.bridge_graph.specs.declared.Choice.{Choice}
use Rattle.bridge_graph.specs.declared.Choice.TheVariants.{By, Missing, Native}
use Rattle.fresh_bridging.specs.TheRules.{edge_at}
use Rattle.item_core.specs.Edge.{children_of}
use Rattle.item_core.specs.Kind.{kind_number}
use Rattle.item_core.specs.declared.kind.Kind.{Kind}

abbrev pub same_choice : Choice → Choice → Bool
same_choice Native Native = true
same_choice (By edge) (By other) = edge == other
same_choice Missing Missing = true
same_choice _ _ = false

abbrev pub led_to : Choice → List Kind
led_to (By edge) = children_of (edge_at edge)
led_to _ = []

module _ (choice other : ℕ → Choice) where
  abbrev pub is_other : Kind → Bool
  is_other kind = not (same_choice (choice (kind_number kind)) (other (kind_number kind)))

  unfoldable pub is_changed : ℕ → Kind → Bool
  is_changed zero kind = false
  is_changed (suc levels) kind =
      is_other kind || list_any (is_changed levels) (led_to (choice (kind_number kind)))
