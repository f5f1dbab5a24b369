-- Choices that agree with a bridging at each of its nodes and leaves.
use Rattle.std.specs.Prelude.{◌≡◌, List}
use Rattle.bridge_graph.specs.declared.Choice.{Choice}
use Rattle.bridge_graph.specs.declared.Choice.TheVariants.{By, Native}
use Rattle.expansion.specs.Rules.{Rules}
use Rattle.expansion.specs.Bridged.{Bridged, EachBridged, EachBridgedIn, by, each, each_in, natively, none, none_in}

module _ {Item Entry : Type 0} {rules : Rules Item Entry} (choice : Item → Choice) where
  unfoldable mutual
    -- at each node and leaf the other choice is the same
    pub KeepsChoices : {item : Item} {entries : List Entry} → Bridged rules item entries → Type 0
    KeepsChoices (natively {item} c) = choice item ≡ Native
    KeepsChoices (by {item} {edge} c groups others) = (choice item ≡ By edge) × KeepsEach groups
        × KeepsIn others

    pub KeepsEach : {items : List Item} {entries : List Entry} → EachBridged rules items entries
        → Type 0
    KeepsEach none = Unit {0}
    KeepsEach (each first rest) = KeepsChoices first × KeepsEach rest

    pub KeepsIn : {inner : List Entry} {items : List Item} → EachBridgedIn rules inner items
        → Type 0
    KeepsIn none_in = Unit {0}
    KeepsIn (each_in first rest) = KeepsChoices first × KeepsIn rest

-- the same rules with another choice
abbrev pub rechosen : {Item Entry : Type 0} → Rules Item Entry → (Item → Choice) → Rules Item Entry
rechosen rules choice = record rules { choice = choice }
