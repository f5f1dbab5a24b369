-- Whether there is a fresh bridging after a change, and which is the first item without a tree, by
-- the items that were found alone.
use Rattle.std.specs.Prelude.{◌≡◌, ℕ, Bool, true, false, cond, List, [], ◌∷◌, All, filter, find, map, Some, refl}
use Rattle.std.proofs.Common.{sym, ap, subst}
use Rattle.std.proofs.lemmas.List.Elements.{All-cons, All-head, All-nil, All-tail, All-weaker}
use Rattle.bridge_graph.specs.declared.Choice.{Choice}
use Rattle.expansion.specs.Bridged.{EachBridged}
use Rattle.item_core.specs.declared.item.Item.{Item}
use Rattle.item_core.specs.declared.kind.Kind.{Kind}
use Rattle.user_model.specs.Model.{ModelValue}
use Rattle.fresh_bridging.specs.Entries.{Entry, put_in}
use Rattle.fresh_bridging.specs.ExistenceLaws.{bridged_by_trees}
use Rattle.fresh_bridging.specs.FreshBridging.{FreshBridging, HasTree, IsFirstTreeless, IsUnsupported, by_group, by_other}
use Rattle.fresh_bridging.specs.ModelImage.{model_image}
use Rattle.fresh_bridging.specs.TheRules.{AreChoices, Setting, graph_of, rules_by}
use Rattle.fresh_bridging.specs.Touched.{KeepsAtEach, KeepsAtIn, choice_of_item}
use Rattle.local_laws.specs.FoundLaws.{first_treeless_of_kept, group_has_tree, other_has_tree}
use Rattle.local_laws.specs.Held.{is_there}
use Rattle.local_laws.specs.Sound.{IsValidUnder}
use Rattle.local_laws.specs.Stays.{AgreeOn}

itself : (xs : List Item) → map (λ i. i) xs ≡ xs
itself [] = refl
itself (x ∷ xs) = ap (λ l. x ∷ l) (itself xs)

module _ {setting : Setting} {model : ModelValue} (old : FreshBridging setting model)
    (next : Setting) (choice : ℕ → Choice) (chosen : AreChoices next choice) (after : ModelValue)
  where
    -- a group that stood before, in which no choice is another
    pub record GroupStays (g : Item) : Type 0 where
      pub stood : find (is_there g.at) (model_image model).groups ≡ Some g
      pub alike : KeepsAtEach (choice_of_item choice) g.at old.made.groups

    -- a row or an objective that stood before, in which no choice is another and what stands for each
    -- variable is what did
    pub record OtherStays (entries : List Entry) (c : Item) : Type 0 where
      pub stood : find (is_there c.at) (model_image model).others ≡ Some c
      pub alike : KeepsAtIn (choice_of_item choice) c.at old.made.others
      pub agree : AgreeOn old.made.entries entries c.body

    module _ (keep : Item → Bool)
        (groups : All (λ g. keep g ≡ false → GroupStays g) (model_image after).groups) where
      left_groups : All (λ g. keep g ≡ false → HasTree (graph_of next) g) (model_image after).groups
      left_groups =
          All-weaker (λ g. keep g ≡ false → GroupStays g)
          (λ g. keep g ≡ false → HasTree (graph_of next) g)
          (λ g h e. group_has_tree next choice chosen old g.at g (h e).stood (h e).alike)
          (model_image after).groups groups

      pub unsupported_group : (kind : Kind)
          → IsFirstTreeless (graph_of next) (filter keep (model_image after).groups) kind
          → IsUnsupported next after kind
      unsupported_group kind first =
          by_group (subst (λ l. IsFirstTreeless (graph_of next) l kind)
          (itself (model_image after).groups)
          (first_treeless_of_kept (graph_of next) keep (λ i. i) kind (model_image after).groups
          left_groups
          (subst (λ l. IsFirstTreeless (graph_of next) l kind)
          (sym (itself (filter keep (model_image after).groups))) first)))

      all_trees : (made : Item → Item) (items : List Item)
          → All (λ i. keep i ≡ false → HasTree (graph_of next) (made i)) items
          → All (λ i. HasTree (graph_of next) (made i)) (filter keep items)
          → All (λ i. HasTree (graph_of next) (made i)) items
      all_trees made [] h k = All-nil (λ i. HasTree (graph_of next) (made i))
      all_trees made (x ∷ xs) h k =
          step (keep x) refl k
          (all_trees made xs (All-tail (λ i. keep i ≡ false → HasTree (graph_of next) (made i)) x xs h))
        where
          step : (b : Bool) → keep x ≡ b
              → All (λ i. HasTree (graph_of next) (made i))
              (cond b (x ∷ filter keep xs) (filter keep xs))
              → (All (λ i. HasTree (graph_of next) (made i)) (filter keep xs)
              → All (λ i. HasTree (graph_of next) (made i)) xs)
              → All (λ i. HasTree (graph_of next) (made i)) (x ∷ xs)
          step true e k later =
              All-cons (λ i. HasTree (graph_of next) (made i)) x xs
              (All-head (λ i. HasTree (graph_of next) (made i)) x (filter keep xs) k)
              (later (All-tail (λ i. HasTree (graph_of next) (made i)) x (filter keep xs) k))
          step false e k later =
              All-cons (λ i. HasTree (graph_of next) (made i)) x xs
              (All-head (λ i. keep i ≡ false → HasTree (graph_of next) (made i)) x xs h e) (later k)

      module _ (others : (entries : List Entry)
          → EachBridged (rules_by choice) (model_image after).groups entries
          → All (λ c. keep c ≡ false → OtherStays entries c) (model_image after).others) where
        left_others : (entries : List Entry)
            → EachBridged (rules_by choice) (model_image after).groups entries
            → All (λ c. keep c ≡ false → HasTree (graph_of next) (put_in entries c))
            (model_image after).others
        left_others entries trees =
            All-weaker (λ c. keep c ≡ false → OtherStays entries c)
            (λ c. keep c ≡ false → HasTree (graph_of next) (put_in entries c))
            (λ c h e. other_has_tree next choice chosen old c.at c entries (h e).stood (h e).alike
            (h e).agree)
            (model_image after).others (others entries trees)

        pub unsupported_other : (kind : Kind) (entries : List Entry)
            → EachBridged (rules_by choice) (model_image after).groups entries
            → IsFirstTreeless (graph_of next)
            (map (put_in entries) (filter keep (model_image after).others)) kind
            → IsUnsupported next after kind
        unsupported_other kind entries trees first =
            by_other choice chosen entries trees
            (first_treeless_of_kept (graph_of next) keep (put_in entries) kind
            (model_image after).others (left_others entries trees) first)

        -- with a tree for each item that was found there is a fresh bridging
        pub bridged_by_found : IsValidUnder next after
            → All (HasTree (graph_of next)) (filter keep (model_image after).groups)
            → ((entries : List Entry)
            → EachBridged (rules_by choice) (model_image after).groups entries
            → All (λ c. HasTree (graph_of next) (put_in entries c))
            (filter keep (model_image after).others))
            → FreshBridging next after
        bridged_by_found sound found more =
            bridged_by_trees next sound.costly choice chosen sound.lawful after sound.valid
            (all_trees (λ i. i) (model_image after).groups left_groups found)
            (λ entries trees. all_trees (put_in entries) (model_image after).others
            (left_others entries trees) (more entries trees))
