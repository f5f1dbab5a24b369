-- The leaves that are planned of found items can be put in the place of those that these had and that
-- aren't planned, and then the leaves of the new bridging stand.
use Rattle.std.specs.Prelude.{◌≡◌, ◌≤◌, List, [], ◌∷◌, All, AllPairs, Contains, IsSome, flat_map, length, Option, Some, None, refl}
use Rattle.std.specs.FinMap as finite
use Rattle.std.specs.Map.{keys_of}
use Rattle.std.proofs.Common.{arith, subst, ◌∙◌}
use Rattle.std.proofs.lemmas.List.Elements.{All-cons, All-head, All-nil}
use Rattle.address_laws.specs.Apart.{Distinct}
use Rattle.aff_core.specs.Address.{Address, address_total}
use Rattle.expansion.specs.Read.{model_leaves, model_nodes}
use Rattle.fresh_bridging.specs.FreshBridging.{FreshBridging, leaves_of}
use Rattle.fresh_bridging.specs.Leaves.{leaf_objectives, leaf_rows, leaf_variables}
use Rattle.fresh_bridging.specs.TheRules.{Setting}
use Rattle.item_core.specs.declared.item.Body.{Body}
use Rattle.item_core.specs.declared.item.Item.{Item}
use Rattle.leaf_update.specs.Leaves.{AreLeaves, HasNativeForm, NamesLeaves}
use Rattle.leaf_update.specs.LeavesLaws.{has_one, names_own}
use Rattle.leaf_update.specs.Objective.{HasOneAddress}
use Rattle.leaf_update.specs.Others.{others, others_among}
use Rattle.leaf_update.specs.Splice.{ArePutBeside, Gone, HaveDistinctKeys, IsSplice, NamesOwn, spliced, spliced_model}
use Rattle.leaf_model.specs.LeafModel.{LeafModel}
use Rattle.local_laws.specs.Held.{held_by}
use Rattle.local_laws.specs.OnceLaws.{keys_once}
use Rattle.local_laws.specs.RootLaws.{missing}
use Rattle.local_laws.specs.Sound.{IsValidUnder}
use Rattle.local_laws.specs.Stays.{StaysAt}
use Rattle.local_laws.specs.Views.{look, objectives_view, of_leaves, rows_view, variables_view}
use Rattle.local_laws.specs.WholeLaws.{objective_changed, rows_changed, variables_changed}
use Rattle.map_laws.specs.EachLaws.{contains_here, contains_later}
use Rattle.map_laws.specs.MadeLaws.{get_made}
use Rattle.push_laws.specs.HeldAllLaws.{each_leaf_held, leaves_held, leaves_listed}
use Rattle.push_laws.specs.StandsLaws.{IsHadBy, entries_apart, entries_once, goes_beside, goes_is, goes_once, goes_stood, planned_stands}
use Rattle.user_model.specs.Model.{ModelValue}

-- entries whose keys are all the same, and each stands once, are one at most
one_or_none : {X : Type 0} (es : List (Address × X)) → Distinct (keys_of es)
    → ((a b : Address) → Contains (keys_of es) a → Contains (keys_of es) b → a ≡ b)
    → length es ≤ 1
one_or_none [] d same = omega arith
one_or_none (e ∷ []) d same = omega arith
one_or_none (e ∷ f ∷ es) d same =
    absurd (All-head (λ k. ¬ (k ≡ e.0)) f.0 (keys_of es) d.0
    (same f.0 e.0 (contains_later e.0 f.0 (f.0 ∷ keys_of es) (contains_here f.0 (keys_of es)))
    (contains_here e.0 (f.0 ∷ keys_of es))))

all_unit : {X : Type 0} (xs : List X) → All (λ (x : X). Unit {0}) xs
all_unit [] = All-nil (λ x. Unit {0})
all_unit (x ∷ xs) = All-cons (λ y. Unit {0}) x xs tt (all_unit xs)

module _ {setting next : Setting} {model after : ModelValue} (sound : IsValidUnder setting model)
    (sound_after : IsValidUnder next after)
    (old : FreshBridging setting model) (new : FreshBridging next after)
    (found : List Address) (apart : AllPairs (λ a b. ¬ (b ≡ a)) found)
    (others_stay : (at : Address) → ¬ (Contains found at) → StaysAt old new at) where
  -- what found items had, in each of the three maps
  pub record AreHadBy (had : Gone) : Type 0 where
    pub variables :
        IsHadBy sound sound_after old new found apart others_stay (of_leaves leaf_variables)
        variables_view had.variables
    pub rows :
        IsHadBy sound sound_after old new found apart others_stay (of_leaves leaf_rows) rows_view
        had.rows
    pub objective :
        IsHadBy sound sound_after old new found apart others_stay (of_leaves leaf_objectives)
        objectives_view had.objective

  abbrev pub put : List Item
  put = leaves_held new found

  module _ (are : AreLeaves (model_leaves new.made)) (had : Gone) (by : AreHadBy had) where
    abbrev pub going : Gone
    going = others_among had put

    -- what holds by the entries that found items hold holds by those of the planned leaves
    as_put : {X : Type 0} (f : Item → List (Address × X))
        (P : List (Address × X) → Type 0) → P (held_by new (of_leaves f) found)
        → P (flat_map f put)
    as_put f P h = subst P (leaves_listed new f found) h

    -- then the leaves of the new bridging stand
    pub leaves_changed : leaves_of new ≡ spliced_model (leaves_of old) going put
    leaves_changed = λ i. record {
      variables = variables i;
      rows = rows i;
      objective = objective i;
    }
      where
        variables : (leaves_of new).variables
            ≡ (spliced_model (leaves_of old) going put).variables
        variables =
            as_put leaf_variables
            (λ es. (leaves_of new).variables
            ≡ spliced (leaves_of old).variables (others (keys_of es) had.variables) es)
            (variables_changed sound sound_after old new found others_stay _
            (goes_is sound sound_after old new found apart others_stay (of_leaves leaf_variables)
            variables_view had.variables by.variables)
            (entries_once sound sound_after old new found apart others_stay
            (of_leaves leaf_variables) variables_view))

        rows : (leaves_of new).rows ≡ (spliced_model (leaves_of old) going put).rows
        rows =
            as_put leaf_rows
            (λ es. (leaves_of new).rows
            ≡ spliced (leaves_of old).rows (others (keys_of es) had.rows) es)
            (rows_changed sound sound_after old new found others_stay _
            (goes_is sound sound_after old new found apart others_stay (of_leaves leaf_rows)
            rows_view had.rows by.rows)
            (entries_once sound sound_after old new found apart others_stay (of_leaves leaf_rows)
            rows_view))

        objective : (leaves_of new).objective
            ≡ (spliced_model (leaves_of old) going put).objective
        objective =
            as_put leaf_objectives
            (λ es. (leaves_of new).objective
            ≡ spliced (leaves_of old).objective (others (keys_of es) had.objective) es)
            (objective_changed sound sound_after old new found others_stay _
            (goes_is sound sound_after old new found apart others_stay (of_leaves leaf_objectives)
            objectives_view had.objective by.objective)
            (entries_once sound sound_after old new found apart others_stay
            (of_leaves leaf_objectives) objectives_view))

    -- at most one of the planned leaves is an objective
    one_objective : (a b : Address)
        → Contains (keys_of (held_by new (of_leaves leaf_objectives) found)) a
        → Contains (keys_of (held_by new (of_leaves leaf_objectives) found)) b → a ≡ b
    one_objective a b c d =
        at a c (look a (held_by new (of_leaves leaf_objectives) found)) refl
        (λ f e. at b d (look b (held_by new (of_leaves leaf_objectives) found)) refl
        (λ g k. has_one (model_leaves new.made) are a b f g e k))
      where
        at : {C : Type 0} (v : Address)
            → Contains (keys_of (held_by new (of_leaves leaf_objectives) found)) v
            → (o : Option Body) → look v (held_by new (of_leaves leaf_objectives) found) ≡ o
            → ((f : Body) → finite.get (leaves_of new).objective v ≡ Some f → C) → C
        at v c None e k =
            absurd (missing v (held_by new (of_leaves leaf_objectives) found) e c)
        at v c (Some f) e k =
            k f (get_made address_total
            (flat_map leaf_objectives (model_leaves new.made)) v
            ∙ planned_stands sound sound_after old new found apart others_stay
            (of_leaves leaf_objectives) objectives_view had.objective by.objective v f e)

    -- so they can be put
    pub is_splice : IsSplice (leaves_of old) going put
    is_splice = record {
      forms = each_leaf_held (λ leaf. HasNativeForm leaf.body) (λ n. Unit {0}) new are.forms
          (all_unit (model_nodes new.made)) found;
      leaves_name = subst (λ m. All (NamesLeaves m) put) leaves_changed
          (each_leaf_held (NamesLeaves (leaves_of new)) (λ n. Unit {0}) new are.names
          (all_unit (model_nodes new.made)) found);
      variables = as_put leaf_variables HaveDistinctKeys
          (entries_apart sound sound_after old new found apart others_stay
          (of_leaves leaf_variables) variables_view);
      rows = as_put leaf_rows HaveDistinctKeys
          (entries_apart sound sound_after old new found apart others_stay (of_leaves leaf_rows)
          rows_view);
      objective = as_put leaf_objectives (λ es. length es ≤ 1)
          (one_or_none (held_by new (of_leaves leaf_objectives) found)
          (keys_once sound_after new (of_leaves leaf_objectives) objectives_view found apart)
          one_objective);
      variables_beside = as_put leaf_variables
          (λ es. ArePutBeside (others (keys_of es) had.variables) es)
          (goes_beside sound sound_after old new found apart others_stay
          (of_leaves leaf_variables) variables_view had.variables by.variables);
      rows_beside = as_put leaf_rows (λ es. ArePutBeside (others (keys_of es) had.rows) es)
          (goes_beside sound sound_after old new found apart others_stay (of_leaves leaf_rows)
          rows_view had.rows by.rows);
      objective_beside = as_put leaf_objectives
          (λ es. ArePutBeside (others (keys_of es) had.objective) es)
          (goes_beside sound sound_after old new found apart others_stay
          (of_leaves leaf_objectives) objectives_view had.objective by.objective);
      gone_variables = as_put leaf_variables
          (λ es. All (λ at. IsSome (finite.get (leaves_of old).variables at))
          (others (keys_of es) had.variables))
          (goes_stood sound sound_after old new found apart others_stay
          (of_leaves leaf_variables) variables_view had.variables by.variables);
      gone_rows = as_put leaf_rows
          (λ es. All (λ at. IsSome (finite.get (leaves_of old).rows at))
          (others (keys_of es) had.rows))
          (goes_stood sound sound_after old new found apart others_stay (of_leaves leaf_rows)
          rows_view had.rows by.rows);
      gone_objective = as_put leaf_objectives
          (λ es. All (λ at. IsSome (finite.get (leaves_of old).objective at))
          (others (keys_of es) had.objective))
          (goes_stood sound sound_after old new found apart others_stay
          (of_leaves leaf_objectives) objectives_view had.objective by.objective);
      variables_apart = as_put leaf_variables
          (λ es. AllPairs (λ a b. ¬ (b ≡ a)) (others (keys_of es) had.variables))
          (goes_once sound sound_after old new found apart others_stay
          (of_leaves leaf_variables) variables_view had.variables by.variables);
      rows_apart = as_put leaf_rows
          (λ es. AllPairs (λ a b. ¬ (b ≡ a)) (others (keys_of es) had.rows))
          (goes_once sound sound_after old new found apart others_stay (of_leaves leaf_rows)
          rows_view had.rows by.rows);
      names = subst NamesOwn leaves_changed (names_own (model_leaves new.made) are);
      one = subst (λ (m : LeafModel). HasOneAddress m.objective) leaves_changed
          (has_one (model_leaves new.made) are);
    }
