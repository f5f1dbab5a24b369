-- Whether each item has a tree after an edit, by the found items alone: the kinds of those come from
-- the kinds of the found groups, and for other variables by the marks of a map of addresses. So where
-- one lacks a tree it is the first of all that does, and else there is a fresh bridging.
use Rattle.std.specs.Prelude.{◌≡◌, ℕ, Bool, true, false, cond, List, [], ◌∷◌, All, Contains, filter, map, Some, None, refl}
use Rattle.std.specs.Option.{option_or}
use Rattle.std.proofs.Common.{ap, ap₂, sym, subst, ◌∙◌}
use Rattle.std.proofs.lemmas.List.{append-nil}
use Rattle.std.proofs.lemmas.List.Elements.{All-cons, All-filter, All-head, All-nil, All-tail, All-weaker}
use Rattle.address_map.specs.AddressMap.{AddressMap}
use Rattle.aff_core.specs.Address.{Address}
use Rattle.bridge_graph.specs.declared.Choice.{Choice}
use Rattle.bridge_plan.specs.KeptGroups.{keeps}
use Rattle.expansion.specs.Bridged.{Bridged, EachBridged, each, none}
use Rattle.expansion.specs.Grown.{Held}
use Rattle.expansion.specs.GrownLaws.{held_each_once}
use Rattle.expansion.specs.KeptLaws.{rebridged}
use Rattle.found_plan.specs.KindLaws.{others_alike}
use Rattle.found_plan.specs.Marked.{plain_in, plain_in_objective}
use Rattle.found_plan.specs.Read.{is_marked}
use Rattle.fresh_bridging.specs.Entries.{Entry, expression_in, is_kept, put_in}
use Rattle.fresh_bridging.specs.ExistenceLaws.{groups_can_all}
use Rattle.fresh_bridging.specs.FreshBridging.{FreshBridging, HasTree, IsUnsupported, expression_of}
use Rattle.fresh_bridging.specs.ModelImage.{model_image}
use Rattle.fresh_bridging.specs.OmitLaws.{IsGroup}
use Rattle.fresh_bridging.specs.TheRules.{AreChoices, Setting, graph_of, rules_by}
use Rattle.fresh_bridging.specs.Touched.{choice_of_item}
use Rattle.item_core.specs.Item.{variables_of}
use Rattle.item_core.specs.KindOf.{kind_of_body}
use Rattle.item_core.specs.declared.item.Item.{Item}
use Rattle.item_core.specs.declared.kind.Kind.{Kind}
use Rattle.local_laws.specs.ExpressedLaws.{expression_held}
use Rattle.local_laws.specs.FoundLaws.{group_has_tree}
use Rattle.local_laws.specs.Held.{expressed_at, held_at_in, is_there}
use Rattle.local_laws.specs.HeldLaws.{held_each_at}
use Rattle.local_laws.specs.Sound.{IsValidUnder}
use Rattle.local_laws.specs.SupportedLaws.{GroupStays, OtherStays, bridged_by_found, unsupported_group, unsupported_other}
use Rattle.map_laws.specs.EachLaws.{all_both, all_from_map}
use Rattle.model_bridging.specs.Found.{kept_over}
use Rattle.model_bridging.specs.Kinds.{first_missing, is_kept_by, kept_as_told, kind_by, kind_by_is, kinds_as_they_stand}
use Rattle.model_bridging.specs.Planned.{variables_of_the_model}
use Rattle.model_bridging.specs.Treeless.{first_treeless, trees_there}
use Rattle.push_laws.specs.AgreeLaws.{one_of_contained, own_variables}
use Rattle.push_laws.specs.ToldLaws.{among_inner, kept_first, told_over, variables_once}
use Rattle.tree_laws.specs.UserLaws.{inner_is}
use Rattle.user_model.specs.Model.{ModelValue}
use Rattle.push_laws.specs.PlainLaws.{each_same, objective_plain, rows_plain}

-- ---- lists

-- what holds of those that are kept and of those that are left out holds of all
either_way : (P : Item → Type 0) (keep : Item → Bool) (items : List Item)
    → All (λ i. keep i ≡ false → P i) items → All P (filter keep items) → All P items
either_way P keep [] h k = All-nil P
either_way P keep (x ∷ xs) h k =
    by (keep x) refl k (either_way P keep xs (All-tail (λ i. keep i ≡ false → P i) x xs h))
  where
    by : (b : Bool) → keep x ≡ b → All P (cond b (x ∷ filter keep xs) (filter keep xs))
        → (All P (filter keep xs) → All P xs) → All P (x ∷ xs)
    by true e k later =
        All-cons P x xs (All-head P x (filter keep xs) k) (later (All-tail P x (filter keep xs) k))
    by false e k later =
        All-cons P x xs (All-head (λ i. keep i ≡ false → P i) x xs h e) (later k)

kinds_put : (kept : Address → Bool) (entries : List Entry) (items : List Item)
    → All (λ i. kind_by kept i.body ≡ kind_of_body (put_in entries i).body) items
    → map (λ i. kind_by kept i.body) items ≡ kinds_as_they_stand (map (put_in entries) items)
kinds_put kept entries [] h = refl
kinds_put kept entries (x ∷ xs) h =
    let Same : Item → Type 0 = λ i. kind_by kept i.body ≡ kind_of_body (put_in entries i).body in
    ap₂ (λ k ks. k ∷ ks) (All-head Same x xs h) (kinds_put kept entries xs (All-tail Same x xs h))

-- ---- after an edit

module _ {setting : Setting} {model : ModelValue} (sound : IsValidUnder setting model)
    (old : FreshBridging setting model)
    (next : Setting) (choice : ℕ → Choice) (chosen : AreChoices next choice)
    (after : ModelValue) (sound_after : IsValidUnder next after)
    (places : AddressMap)
    (marks : (v : Address) → Contains (variables_of_the_model model) v
    → is_marked places v ≡ is_kept (expression_of old v))
    (keep : Item → Bool)
    (groups : All (λ g. keep g ≡ false → GroupStays old next choice chosen after g)
    (model_image after).groups) where
  abbrev all_groups : List Item
  all_groups = (model_image after).groups

  abbrev all_others : List Item
  all_others = (model_image after).others

  abbrev HasTreeNow : Item → Type 0
  HasTreeNow i = HasTree (graph_of next) i

  abbrev IsGroupNow : Item → Type 0
  IsGroupNow g = IsGroup next sound_after.costly choice chosen sound_after.lawful g

  -- the kinds are given by these
  abbrev pub kept_now : Address → Bool
  kept_now v = kept_over choice (is_marked places) (filter keep all_groups) v

  -- ---- groups

  pub unsupported_found_group : (kind : Kind)
      → first_missing choice (kinds_as_they_stand (filter keep all_groups)) ≡ Some kind
      → IsUnsupported next after kind
  unsupported_found_group kind e =
      unsupported_group old next choice chosen after keep groups kind
      (first_treeless next choice chosen (filter keep all_groups) kind e)

  pub groups_trees : first_missing choice (kinds_as_they_stand (filter keep all_groups)) ≡ None
      → All HasTreeNow all_groups
  groups_trees e =
      either_way HasTreeNow keep all_groups
      (All-weaker (λ g. keep g ≡ false → GroupStays old next choice chosen after g)
      (λ g. keep g ≡ false → HasTreeNow g)
      (λ g h k. group_has_tree next choice chosen old g.at g (h k).stood (h k).alike) all_groups
      groups)
      (trees_there next choice chosen (filter keep all_groups) e)

  -- ---- what is said of variables

  -- a group that stays keeps its variables as the map has them marked
  group_marked : (v : Address) (g : Item) → IsGroupNow g
      → GroupStays old next choice chosen after g → Contains (variables_of g.body) v
      → is_marked places v ≡ keeps choice (kind_of_body g.body)
  group_marked v g is stays own =
      let found = held_each_at (choice_of_item choice) g.at old.made.groups stays.alike g stays.stood
      in
      let tree : Bridged (rules_by choice) g found.entries =
      (rebridged (choice_of_item choice) found.tree found.keeps).0 in
      marks v (subst (λ l. Contains l v) (inner_is model.groups)
      (among_inner v (is_there g.at) (model_image model).groups g stays.stood own))
      ∙ ap is_kept (expression_held sound old v g.at g stays.stood own
      ∙ ap (λ o. expressed_at (option_or o (held_at_in g.at old.made.others)) v) found.is)
      ∙ ap (λ l. is_kept (expression_in l v)) (sym (append-nil found.entries))
      ∙ sym (kept_as_told next sound_after.costly choice chosen sound_after.lawful
      (each tree none) (All-cons IsGroupNow g [] is (All-nil IsGroupNow)) v)
      ∙ kept_first choice v g []
      ∙ ap (λ b. cond b (keeps choice (kind_of_body g.body)) (is_kept_by choice [] v))
      (one_of_contained (variables_of g.body) v own)

  module _ (trees : All HasTreeNow all_groups) where
    groups_can : All IsGroupNow all_groups
    groups_can =
        groups_can_all next sound_after.costly choice chosen sound_after.lawful after
        sound_after.valid trees

    -- so of each variable of the model the kinds of all groups tell as much
    pub kept_told : (v : Address) → Contains (own_variables after.groups) v
        → kept_now v ≡ is_kept_by choice all_groups v
    kept_told v c =
        told_over choice v (is_marked places) keep all_groups
        (variables_once after sound_after.valid)
        (subst (λ l. Contains l v) (sym (inner_is after.groups)) c)
        (All-weaker
        (λ g. IsGroupNow g × (keep g ≡ false → GroupStays old next choice chosen after g))
        (λ g. keep g ≡ false → Contains (variables_of g.body) v
        → is_marked places v ≡ keeps choice (kind_of_body g.body))
        (λ g h k own. group_marked v g h.0 (h.1 k) own) all_groups
        (all_both IsGroupNow (λ g. keep g ≡ false → GroupStays old next choice chosen after g)
        all_groups groups_can groups))

    told_alike : All (λ i. kind_by kept_now i.body ≡ kind_by (is_kept_by choice all_groups) i.body)
        all_others
    told_alike =
        each_same (λ (i : Item). kind_by kept_now i.body)
        (λ (i : Item). kind_by (is_kept_by choice all_groups) i.body) all_others
        (others_alike kept_now (is_kept_by choice all_groups) after.rows (Some after.objective)
        (All-weaker (Contains (own_variables after.groups))
        (λ v. kept_now v ≡ is_kept_by choice all_groups v) kept_told (plain_in after.rows)
        (rows_plain after.groups after.rows sound_after.valid.parts.valid_rows))
        (All-weaker (Contains (own_variables after.groups))
        (λ v. kept_now v ≡ is_kept_by choice all_groups v) kept_told
        (plain_in_objective after.objective)
        (objective_plain after.groups after.objective
        sound_after.valid.parts.valid_objective.stand)))

    module _ (entries : List Entry) (bridged : EachBridged (rules_by choice) all_groups entries)
      where
        -- the kinds that are given are those with the groups' expressions put in
        kinds_found : map (λ (i : Item). kind_by kept_now i.body) (filter keep all_others)
            ≡ kinds_as_they_stand (map (put_in entries) (filter keep all_others))
        kinds_found =
            kinds_put kept_now entries (filter keep all_others)
            (All-filter keep
            (λ i. kind_by kept_now i.body ≡ kind_of_body (put_in entries i).body) all_others
            (All-weaker
            (λ i. kind_by kept_now i.body ≡ kind_by (is_kept_by choice all_groups) i.body)
            (λ i. kind_by kept_now i.body ≡ kind_of_body (put_in entries i).body)
            (λ i e. e ∙ kind_by_is entries (is_kept_by choice all_groups)
            (kept_as_told next sound_after.costly choice chosen sound_after.lawful bridged groups_can)
            i.body)
            all_others told_alike))

    -- ---- rows and the objective

    module _ (entries : List Entry) (bridged : EachBridged (rules_by choice) all_groups entries)
        (others : All (λ c. keep c ≡ false → OtherStays old next choice chosen after entries c)
        all_others) where
      others_for : (es : List Entry) → EachBridged (rules_by choice) all_groups es
          → All (λ c. keep c ≡ false → OtherStays old next choice chosen after es c) all_others
      others_for es t =
          subst (λ l. All (λ c. keep c ≡ false → OtherStays old next choice chosen after l c)
          all_others) (ap (λ (h : Held Item Entry). h.entries) (held_each_once bridged t)) others

      pub unsupported_found_other : (kind : Kind)
          → first_missing choice (map (λ (i : Item). kind_by kept_now i.body)
          (filter keep all_others)) ≡ Some kind
          → IsUnsupported next after kind
      unsupported_found_other kind e =
          unsupported_other old next choice chosen after keep groups others_for kind entries bridged
          (first_treeless next choice chosen (map (put_in entries) (filter keep all_others)) kind
          (sym (ap (first_missing choice) (kinds_found entries bridged)) ∙ e))

      -- with no kind missing there is a fresh bridging
      pub bridged_found : first_missing choice (map (λ (i : Item). kind_by kept_now i.body)
          (filter keep all_others)) ≡ None
          → FreshBridging next after
      bridged_found e =
          bridged_by_found old next choice chosen after keep groups others_for sound_after
          (All-filter keep HasTreeNow all_groups trees)
          (λ es t. all_from_map HasTreeNow (put_in es) (filter keep all_others)
          (trees_there next choice chosen (map (put_in es) (filter keep all_others))
          (sym (ap (first_missing choice) (kinds_found es t)) ∙ e)))
