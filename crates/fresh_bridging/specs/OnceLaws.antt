-- A model has one fresh bridging at most: any two hold the same.
use Rattle.std.specs.Prelude.{◌≡◌, ◌+◌, ◌&&◌, ◌++◌, List, Option, Some, if◌then◌else◌, refl}
use Rattle.std.proofs.Common.{arith, ap, ap₂, sym, subst, ◌∙◌}
use Rattle.std.specs.Option.{option_or}
use Rattle.std.proofs.lemmas.Option.{same_Some}
use Rattle.bridge_graph.specs.Hypergraph.{IsCostly}
use Rattle.expansion.specs.Bridged.{EachBridged, EachBridgedIn, Fresh, each, each_in, none, none_in}
use Rattle.expansion.specs.Grown.{Held}
use Rattle.expansion.specs.GrownLaws.{depth_in, grown_in_is, held_each, held_each_once, held_in, held_once}
use Rattle.expansion.specs.Read.{model_leaves, unfit_each, unfit_in}
use Rattle.expansion.specs.Rules.{ItemChildren, Rules}
use Rattle.user_model.specs.Model.{ModelValue}
use Rattle.fresh_bridging.specs.ChoiceLaws.{one_choice}
use Rattle.fresh_bridging.specs.FreshBridging.{FreshBridging, leaves_of}
use Rattle.fresh_bridging.specs.Leaves.{leaf_model_of}
use Rattle.fresh_bridging.specs.ModelImage.{model_image}
use Rattle.fresh_bridging.specs.TheRules.{Setting, graph_of, rules_by}

-- what is read of a bridging of a model
pub record ModelHeld (Item Entry : Type 0) : Type 0 where
  pub groups : Held Item Entry
  pub others : Held Item Entry
  pub unfit : Option Item

module _ {Item Entry : Type 0} {rules : Rules Item Entry} where
  -- ---- items one after another

  unfit_each_once : {items : List Item} {es fs : List Entry} (trees : EachBridged rules items es)
      (others : EachBridged rules items fs) → unfit_each trees ≡ unfit_each others
  unfolding unfit_each
  unfit_each_once none none = refl
  unfit_each_once (each {item} first rest) (each other more) =
      ap₂ (λ b o. if b then o else Some item) (ap (λ h. h.fits) (held_once first other))
      (unfit_each_once rest more)

  held_in_once : {inner : List Entry} {items : List Item}
      (trees others : EachBridgedIn rules inner items)
      → held_in trees ≡ held_in others
  held_in_once trees others =
      same_Some _ _ (sym (grown_in_is (depth_in trees + depth_in others) trees (omega arith))
      ∙ grown_in_is (depth_in trees + depth_in others) others (omega arith))

  unfit_in_once : {inner : List Entry} {items : List Item}
      (trees others : EachBridgedIn rules inner items)
      → unfit_in trees ≡ unfit_in others
  unfolding unfit_in
  unfit_in_once none_in none_in = refl
  unfit_in_once (each_in {inner} {item} first rest) (each_in other more) =
      ap₂ (λ b o. if rules.put_in_fits inner item && b then o else Some item)
      (ap (λ h. h.fits) (held_once first other)) (unfit_in_once rest more)

  -- ---- a model

  abbrev pub held_model : {model : ItemChildren Item} → Fresh rules model → ModelHeld Item Entry
  held_model fresh = record {
    groups = held_each fresh.groups;
    others = held_in fresh.others;
    unfit = option_or (unfit_each fresh.groups) (unfit_in fresh.others);
  }

  -- the further children by the entries of the groups
  abbrev held_others : (inner : List Entry) (items : List Item) → EachBridgedIn rules inner items
      → Held Item Entry × Option Item
  held_others inner items trees = (held_in trees, unfit_in trees)

  others_once : (items : List Item) (inner after : List Entry) → inner ≡ after
      → (trees : EachBridgedIn rules inner items) (others : EachBridgedIn rules after items)
      → held_others inner items trees ≡ held_others after items others
  others_once items inner after same trees =
      subst
      (λ e. (others : EachBridgedIn rules e items)
      → held_others inner items trees ≡ held_others e items others)
      same (λ others. ap₂ (λ h u. (h, u)) (held_in_once trees others) (unfit_in_once trees others))

  pub fresh_once : (model : ItemChildren Item) (one other : Fresh rules model)
      → held_model one ≡ held_model other
  fresh_once model one other =
      let groups = held_each_once one.groups other.groups in
      let further = others_once model.others one.entries other.entries (ap (λ h. h.entries) groups)
      one.others other.others in
      let unfit = unfit_each_once one.groups other.groups in
      λ i. record {
        groups = groups i;
        others = (further i).0;
        unfit = option_or (unfit i) (further i).1;
      }

-- ---- the user's model

module _ (setting : Setting) (model : ModelValue) (costly : IsCostly (graph_of setting)) where
  pub same_choices : (one other : FreshBridging setting model) → one.choice ≡ other.choice
  same_choices one other =
      λ i kind. one_choice (graph_of setting) costly kind (one.choice kind) (other.choice kind)
      (one.chosen kind) (other.chosen kind) i

  pub one_bridging : (one other : FreshBridging setting model)
      → held_model one.made ≡ held_model other.made
  one_bridging one other =
      subst
      (λ choice. (made : Fresh (rules_by choice) (model_image model))
      → held_model one.made ≡ held_model made)
      (same_choices one other) (fresh_once (model_image model) one.made) other.made

  -- so whichever is looked at, the solver's model is to be the same
  pub same_leaves : (one other : FreshBridging setting model) → leaves_of one ≡ leaves_of other
  unfolding model_leaves
  same_leaves one other =
      ap (λ h. leaf_model_of (h.groups.leaves ++ h.others.leaves)) (one_bridging one other)
