-- What is planned of found groups stands for their variables as in a bridging of all groups.
use Rattle.std.specs.Prelude.{◌≡◌, ◌⊎◌, ◌++◌, ℕ, Bool, true, false, cond, List, [], ◌∷◌, All, Contains, filter, refl}
use Rattle.std.proofs.Common.{inl, inr, ap, sym, subst, ◌∙◌}
use Rattle.std.proofs.lemmas.List.Elements.{All-head, All-tail}
use Rattle.address_laws.specs.Apart.{Avoids, avoids, in_or_not}
use Rattle.aff_core.specs.Address.{Address}
use Rattle.bridge_graph.specs.Hypergraph.{IsCostly}
use Rattle.bridge_graph.specs.declared.Choice.{Choice}
use Rattle.bridge_plan.specs.KeptGroups.{group_components}
use Rattle.bridge_plan.specs.Trees.{within_bridged}
use Rattle.bridge_plan.specs.Worked.{IsItemWithinLevels, worked, worked_each}
use Rattle.expansion.specs.Bridged.{EachBridged, each, none}
use Rattle.expansion.specs.Grown.{Held}
use Rattle.expansion.specs.GrownLaws.{held_once}
use Rattle.fresh_bridging.specs.CanLaws.{AreLawful}
use Rattle.fresh_bridging.specs.Entries.{Entry, expression_in}
use Rattle.fresh_bridging.specs.OmitLaws.{IsGroup}
use Rattle.fresh_bridging.specs.TheRules.{AreChoices, Setting, graph_of, rules_by}
use Rattle.item_core.specs.Item.{variables_of}
use Rattle.item_core.specs.declared.item.Item.{Item}
use Rattle.item_core.specs.Kind.{kind_count}
use Rattle.tree_laws.specs.LookupLaws.{components, found_first, found_second}

module _ (setting : Setting) (costly : IsCostly (graph_of setting)) (choice : ℕ → Choice)
    (chosen : AreChoices setting choice) (lawful : AreLawful setting) (keep : Item → Bool)
    (v : Address) where
  abbrev IsGroupHere : Item → Type 0
  IsGroupHere g = IsGroup setting costly choice chosen lawful g

  -- what is planned of some groups
  abbrev planned : List Item → List Entry
  planned gs = (worked_each choice (worked choice kind_count) gs).entries

  planned_first : (g : Item) (gs : List Item)
      → planned (g ∷ gs) ≡ (worked choice kind_count g).entries ++ planned gs
  unfolding worked_each
  planned_first g gs = refl

  planned_none : planned [] ≡ []
  unfolding worked_each
  planned_none = refl

  same_behind : (entries es fs : List Entry) → expression_in es v ≡ expression_in fs v
      → expression_in (entries ++ es) v ≡ expression_in (entries ++ fs) v
  same_behind entries es fs e = by (in_or_not (components entries) v)
    where
      by : Contains (components entries) v ⊎ Avoids (components entries) v
          → expression_in (entries ++ es) v ≡ expression_in (entries ++ fs) v
      by (inl c) = found_first entries es v c ∙ sym (found_first entries fs v c)
      by (inr n) = found_second entries es v n ∙ e ∙ sym (found_second entries fs v n)

  -- a group that is left out doesn't have the variable
  abbrev pub IsWithout : Item → Type 0
  IsWithout g = keep g ≡ false → ¬ (Contains (variables_of g.body) v)

  pub standing_is : {gs : List Item} {entries : List Entry}
      → EachBridged (rules_by choice) gs entries → All IsGroupHere gs
      → All (IsItemWithinLevels choice kind_count) (filter keep gs) → All IsWithout gs
      → expression_in (planned (filter keep gs)) v ≡ expression_in entries v
  standing_is none here within without = ap (λ l. expression_in l v) planned_none
  standing_is (each {item = g} {items = gs} {entries} {others} first rest) here within without =
      by (keep g) refl within
      (λ w. standing_is rest (All-tail IsGroupHere g gs here) w (All-tail IsWithout g gs without))
    where
      own : components entries ≡ variables_of g.body
      own =
          group_components setting costly choice chosen lawful first
          (All-head IsGroupHere g gs here)

      by : (b : Bool) → keep g ≡ b
          → All (IsItemWithinLevels choice kind_count) (cond b (g ∷ filter keep gs) (filter keep gs))
          → (All (IsItemWithinLevels choice kind_count) (filter keep gs)
          → expression_in (planned (filter keep gs)) v ≡ expression_in others v)
          → expression_in (planned (cond b (g ∷ filter keep gs) (filter keep gs))) v
          ≡ expression_in (entries ++ others) v
      by true e w later =
          let made = within_bridged choice kind_count g
          (All-head (IsItemWithinLevels choice kind_count) g (filter keep gs) w) in
          ap (λ l. expression_in l v) (planned_first g (filter keep gs))
          ∙ ap (λ l. expression_in (l ++ planned (filter keep gs)) v)
          (sym (ap (λ (h : Held Item Entry). h.entries) (held_once first made.tree ∙ made.holds)))
          ∙ same_behind entries (planned (filter keep gs)) others
          (later (All-tail (IsItemWithinLevels choice kind_count) g (filter keep gs) w))
      by false e w later =
          later w
          ∙ sym (found_second entries others v
          (avoids (components entries) v
          (λ c. All-head IsWithout g gs without e (subst (λ l. Contains l v) own c))))
