-- Plans of the edits of one group.
use Rattle.std.proofs.Common.{◌≡◌, ◌≢◌, ℕ, ◌+◌, ◌<◌, ◌≤◌, ◌==◌, Bool, true, false, cond, List, [], ◌∷◌, ◌++◌, Option, Some, None, refl, sym, ap, subst, ◌∙◌, arith, inl, inr, map, length}
use Rattle.std.specs.Prelude.{All, IfSome, IsSome, is_some}
use Rattle.std.specs.List as list
use Rattle.std.specs.List.{list_any}
use Rattle.std.specs.Option.{option_map, option_map_or, option_or}
use Rattle.std.proofs.lemmas.Bool.{both_ways, cases_eq, ne_eqb}
use Rattle.std.proofs.lemmas.List.{append-nil}
use Rattle.std.proofs.lemmas.List.Elements.{All-map, All-nil, All-contains, All-weaker}
use Rattle.std.proofs.lemmas.List.Folds.{find-append, list_any_none}
use Rattle.std.proofs.lemmas.List.Concat.{flat_map-append}
use Rattle.std.proofs.lemmas.Option.{none-some, same_Some}
use Rattle.map_laws.specs.OptionLaws.{none_of, not_some, option_or-none}
use Rattle.numbered_list.specs.Numbered.{Rise, find, put}
use Rattle.numbered_list.specs.Laws.{Contains-found, find-none_below, number_of_found}
use Rattle.set_core.specs.declared.set.Set.{Set}
use Rattle.user_model.specs.declared.edit.Edit.TheVariants as edit
use Rattle.user_model.specs.declared.group.Group.{Group}
use Rattle.user_model.specs.declared.group.GroupVar.{GroupVar}
use Rattle.user_model.specs.declared.undo.NextNumbers.{NextNumbers}
use Rattle.user_model.specs.Model.{ModelValue, group_of, has_variable, variable_named, variables}
use Rattle.user_model.specs.Edited.{add_group, change_group, edited, group_number, numbered_from, renamed, with_variable}
use Rattle.user_model.specs.Consistent.{IsConsistent, variable_number}
use Rattle.user_model.specs.Limits.{LAST_NUMBER}
use Rattle.user_model.specs.Refusals.{has_variable_named}
use Rattle.model_laws.specs.Changed.{change_group-found, with_variable-found}
use Rattle.model_laws.specs.Found.{is_some-find, something}
use Rattle.model_laws.specs.KeptWithin.{kept_within}
use Rattle.model_laws.specs.ItemChanges.{set_all_last, set_to}
use Rattle.model_laws.specs.Located.{free_variable, group_by_number, variable_located, variable_of_name}
use Rattle.model_laws.specs.Numbering.{numbered_from_on, numbered_rise}
use Rattle.map_laws.specs.PairLaws.{AllPairs-map}
use Rattle.model_laws.specs.Renamed.{renamed_number, renamed_stands, renamed_there}
use Rattle.model_laws.specs.Replaced.{replaced}
use Rattle.model_laws.specs.Shapes.{group_name_other, group_set_other, group_set_same}
use Rattle.model_laws.specs.Differing.{group_unchanged}
use Rattle.model_laws.specs.Variables.{group_found, vars_in, vars_renamed, vars_replaced}
use Rattle.model_catalog.specs.declared.names.NameChange.{NameChange}
use Rattle.model_plans.specs.declared.plan.EditPlan.{EditPlan}
use Rattle.model_catalog.specs.Names.{listed_as, listed_number}
use Rattle.model_catalog.specs.Index.{group_number_of}
use Rattle.model_catalog.specs.Named.{IsInGroup, AreNameChanges, ChangesNames, variable_name}
use Rattle.model_plans.specs.Plans.{Accepts, HasParts, IsRenamed, LeadsToTarget, listed_variables}
use Rattle.model_plans.proofs.Finding.{find-mapped, found_by_number}
use Rattle.model_plans.proofs.NamesListed.{AreNameChanges-groups, one_listed, one_renamed, unlisted}
use Rattle.model_plans.proofs.Leading.{leads_group, leads_nowhere}

-- ---- the groups of variables, as one group changes

pub ids_replaced : (x y : Group) (groups : List Group) (n : ℕ) → Rise group_number groups
    → find group_number x.id groups ≡ Some y → x.id ≡ y.id → has_variable n x ≡ has_variable n y
    → option_map (λ g. g.id) (list.find (has_variable n) (put group_number x groups))
    ≡ option_map (λ g. g.id) (list.find (has_variable n) groups)
ids_replaced x y groups n rise found id same =
    replaced group_number (λ xs ys. option_map (λ g. g.id) (list.find (has_variable n) ys)
    ≡ option_map (λ g. g.id) (list.find (has_variable n) xs)) x y groups rise found around
  where
    around : (before after : List Group) → option_map (λ g. g.id)
        (list.find (has_variable n) (before ++ (x ∷ after))) ≡ option_map (λ g. g.id)
        (list.find (has_variable n) (before ++ (y ∷ after)))
    around [] after =
        ap (λ b. option_map (λ g. g.id) (cond b (Some x) (list.find (has_variable n) after))) same
        ∙ elim (has_variable n y) as (λ b. option_map (λ g. g.id)
        (cond b (Some x) (list.find (has_variable n) after)) ≡ option_map (λ g. g.id)
        (cond b (Some y) (list.find (has_variable n) after)))
        [ true ↦ ap Some id | false ↦ refl ]
    around (z ∷ before) after =
        elim (has_variable n z) as (λ b. option_map (λ g. g.id)
        (cond b (Some z) (list.find (has_variable n) (before ++ (x ∷ after)))) ≡ option_map
        (λ g. g.id) (cond b (Some z) (list.find (has_variable n) (before ++ (y ∷ after)))))
        [ true ↦ refl | false ↦ around before after ]

-- ---- names, as a variable is renamed

module _ (n : ℕ) (name : List ℕ) where
  find-renamed : (m : ℕ) (vs : List GroupVar) → find variable_number m (map (renamed n name) vs)
      ≡ option_map (renamed n name) (find variable_number m vs)
  find-renamed m vs =
      find-mapped variable_number variable_number (renamed n name) (renamed_number n name) m vs

  name-renamed_other : (m : ℕ) (vs : List GroupVar) → m ≢ n
      → option_map (λ v. v.name) (find variable_number m (map (renamed n name) vs))
      ≡ option_map (λ v. v.name) (find variable_number m vs)
  name-renamed_other m vs ne =
      ap (option_map (λ v. v.name)) (find-renamed m vs) ∙ by (find variable_number m vs) refl
    where
      by : (o : Option GroupVar) → find variable_number m vs ≡ o
          → option_map (λ v. v.name) (option_map (renamed n name) o) ≡ option_map (λ v. v.name) o
      by None e = refl
      by (Some v) e =
          ap (λ b. Some (cond b (record v { name = name }) v).name)
          (ne_eqb v.number n (λ same. ne (sym (number_of_found variable_number m v vs e)
          ∙ same)))

  name-renamed_there : (vs : List GroupVar) → IsSome (find variable_number n vs)
      → option_map (λ v. v.name) (find variable_number n (map (renamed n name) vs)) ≡ Some name
  name-renamed_there vs some =
      let there = something (find variable_number n vs) some in
      ap (option_map (λ v. v.name)) (find-renamed n vs ∙ ap (option_map (renamed n name)) there.1)
      ∙ ap Some (renamed_there n name there.0 (number_of_found variable_number n
      there.0 vs there.1))

-- ---- the plans

module _ (model : ModelValue) (plan : EditPlan) (c : IsConsistent model) (name : List ℕ) (n : ℕ)
    (named : variable_named model name ≡ Some n) (group : Group)
    (found : group_of model n ≡ Some group) where
  there : find group_number group.id model.groups ≡ Some group
  there = group_by_number model n group c found

  -- the group changes, and the variables' names as they are listed
  leads_changed_group : (h : Group → Group) (vs : List NameChange) → (h group).id ≡ group.id
      → h group ≢ group → HasParts plan (set_to group_number (h group) ∷ []) [] None model.next vs
      [] → ChangesNames vs (variable_name model)
      (variable_name (record model { groups = put group_number (h group) model.groups })) → All
      (IsRenamed (variable_name model)) vs
      → ((m : ℕ) → has_variable m (h group) ≡ has_variable m group)
      → ((m : ℕ) → IsSome (find listed_number m vs) → IsInGroup plan.names.group model m)
      → LeadsToTarget model (change_group model n h) plan
  leads_changed_group h vs id ne p names renamed same inside =
      let at : find group_number (h group).id model.groups ≡ Some group =
      ap (λ m. find group_number m model.groups) id ∙ there in
      let ids : (m : ℕ)
      → group_number_of (record model { groups = put group_number (h group) model.groups }) m
      ≡ group_number_of model m = λ m. ids_replaced (h group) group model.groups m c.groups_rise
      at id (same m) in
      subst (λ after. LeadsToTarget model after plan) (sym (change_group-found model n h group found))
      (leads_group model plan (h group).id (Some (h group)) model.next vs p refl
      (λ e. ne (sym (same_Some group (h group) (sym at ∙ e))))
      (AreNameChanges-groups plan.names vs model (put group_number (h group) model.groups)
      model.objective model.next p.variables p.row_names names
      (λ m some. (
        inside m some,
        subst (λ o. IfSome o (λ id. id ≡ plan.names.group))
            (sym (ids m)) (inside m some),
      )) (λ m absent. ids m)) renamed)

  pub group_set_same_leads : (set : Set) → group.set ≡ set
      → HasParts plan [] [] None model.next [] []
      → LeadsToTarget model (with_variable model name (λ n. change_group model n
      (λ g. record g { set = set }))) plan
  group_set_same_leads set e p =
      subst (λ after. LeadsToTarget model after plan)
      (sym (with_variable-found model name (λ n. change_group model n
      (λ g. record g { set = set })) n named ∙ group_unchanged model c n
      (λ g. record g { set = set }) group found (group_set_same group set e)))
      (leads_nowhere model plan p)

  pub group_set_new_leads : (set : Set) → group.set ≢ set
      → HasParts plan (set_to group_number (record group { set = set }) ∷ []) [] None model.next []
      [] → LeadsToTarget model (with_variable model name (λ n. change_group model n
      (λ g. record g { set = set }))) plan
  group_set_new_leads set ne p =
      let x : Group = record group { set = set } in
      subst (λ after. LeadsToTarget model after plan)
      (sym (with_variable-found model name (λ n. change_group model n
      (λ g. record g { set = set })) n named))
      (leads_changed_group (λ g. record g { set = set }) [] refl (group_set_other group set ne) p
      (unlisted (variable_name model) (variable_name
      (record model { groups = put group_number x model.groups })) (λ m. ap
      (λ vs. option_map (λ v. v.name) (find variable_number m vs))
      (vars_replaced x group model.groups c.groups_rise there refl)))
      (All-nil (IsRenamed (variable_name model))) (λ m. refl)
      (λ m some. absurd (not_some (find listed_number m []) refl some)))

  -- no variable has the new name, and so not the one that is renamed
  found_renamed : (new : List ℕ) → All (λ v. v.name ≢ new) (variables model)
      → ((v : GroupVar) × (find variable_number n (variables model) ≡ Some v))
      → IsRenamed (variable_name model) (listed_as n (Some new))
  found_renamed new free (v, at) same =
      All-contains (λ v. v.name ≢ new) (variables model) v free (Contains-found variable_number n v
      (variables model) at) (same_Some v.name new (sym (ap (option_map (λ v. v.name)) at)
      ∙ same))

  pub renamed_leads : (new : List ℕ) → has_variable_named model new ≡ false
      → plan.names.group ≡ group.id
      → HasParts plan (set_to group_number
      (record group { vars = map (renamed n new) group.vars }) ∷ []) [] None model.next (listed_as n
      (Some new) ∷ []) []
      → LeadsToTarget model (with_variable model name (λ n. change_group model n
      (λ g. record g { vars = map (renamed n new) g.vars }))) plan
  renamed_leads new free in_group p =
      let x : Group = record group { vars = map (renamed n new) group.vars } in
      let at = variable_located model name n group c named found in
      let var = variable_of_name model name n named in
      let apart : name ≢ new = subst (λ k. k ≢ new) var.3 (All-contains (λ v. v.name ≢ new)
      (variables model) var.0 (free_variable model new free) var.1) in
      let vars = vars_renamed n new group model.groups c.groups_rise c.variables_rise there at.0
      at.1.there at.1.number in
      let stands : IsSome (find variable_number n (variables model)) =
      found_by_number variable_number n var.0 (variables model) var.1 var.2 in
      let other = found_renamed new (free_variable model new free)
      (something (find variable_number n (variables model)) stands) in
      subst (λ after. LeadsToTarget model after plan)
      (sym (with_variable-found model name (λ n. change_group model n
      (λ g. record g { vars = map (renamed n new) g.vars })) n named))
      (leads_changed_group (λ g. record g { vars = map (renamed n new) g.vars }) (listed_as n
      (Some new) ∷ []) refl (group_name_other n new group at.0 at.1.there at.1.number
      (λ e. apart (sym at.1.named ∙ e))) p
      (one_listed (listed_as n (Some new)) (variable_name model)
      (variable_name (record model { groups = put group_number x model.groups })) (ap
      (λ vs. option_map (λ v. v.name) (find variable_number n vs)) vars
      ∙ name-renamed_there n new (variables model) stands)
      (λ m off. ap (λ vs. option_map (λ v. v.name) (find variable_number m vs)) vars
      ∙ name-renamed_other n new m (variables model) off))
      (one_renamed (variable_name model) (listed_as n (Some new)) other)
      (λ m. renamed_stands n new m group.vars)
      (λ m some. elim (cases_eq n m) [
        | inl same ↦ subst (λ k. IsInGroup plan.names.group model k) same
            (subst (λ o. IfSome (option_map (λ g. g.id) o) (λ id. id ≡ plan.names.group))
            (sym found) (sym in_group))
        | inr other ↦ absurd (both_ways (is_some (cond (n == m) (Some (listed_as n (Some new)))
            None)) (ap (λ b. is_some (cond b (Some (listed_as n (Some new))) None))
            (ne_eqb n m other)) some)
      ]))

-- ---- a new group

-- the next numbers of groups and of variables fit
pub next_group : (model : ModelValue) (names : List (List ℕ)) (set : Set)
    → Accepts model (edit.AddGroup names set) → (model.next.group + 1 ≤ LAST_NUMBER + 1)
    × (model.next.variable + length names ≤ LAST_NUMBER + 1)
unfolding edited
next_group model names set h =
    let w = kept_within model (edit.AddGroup names set) h.consistent h.within h.accepted in
    (w.group_numbers, w.variable_numbers)

module _ (first : ℕ) (vars : List GroupVar) (old : List GroupVar)
    (below : All (λ v. v.number < first) old) (above : All (λ v. first ≤ v.number) vars) where
  abbrev as_listed : GroupVar → NameChange
  as_listed v = listed_as v.number (Some v.name)

  found_listed : (n : ℕ) → find listed_number n (listed_variables vars)
      ≡ option_map as_listed (find variable_number n vars)
  found_listed n = find-mapped variable_number listed_number as_listed (λ v. refl) n vars

  -- a new variable's number is no old one's
  none_old : (n : ℕ) (v : GroupVar) → find variable_number n vars ≡ Some v
      → All (λ w. w.number < n) old
  none_old n v e =
      let from : first ≤ v.number =
      All-contains (λ w. first ≤ w.number) vars v above (Contains-found variable_number
      n v vars e) in
      let number = number_of_found variable_number n v vars e in
      All-weaker (λ w. w.number < first) (λ w. w.number < n)
      (λ w lt. omega (arith, from, number)) old below

  added_name : (n : ℕ) → option_map (λ v. v.name) (find variable_number n (old ++ vars))
      ≡ option_map_or (λ l. l.name) (find listed_number n (listed_variables vars))
      (option_map (λ v. v.name) (find variable_number n old))
  added_name n =
      ap (option_map (λ v. v.name)) (find-append (λ v. v.number == n) old vars)
      ∙ (by (find variable_number n vars) refl
      ∙ sym (ap (λ o. option_map_or (λ l. l.name) o
      (option_map (λ v. v.name) (find variable_number n old))) (found_listed n)))
    where
      by : (o : Option GroupVar) → find variable_number n vars ≡ o
          → option_map (λ v. v.name) (option_or (find variable_number n old)
          (find variable_number n vars)) ≡ option_map_or (λ l. l.name)
          (option_map as_listed (find variable_number n vars))
          (option_map (λ v. v.name) (find variable_number n old))
      by None e = rw e (ap (option_map (λ v. v.name)) (option_or-none (find variable_number n old)))
      by (Some v) e = rw (e, find-none_below variable_number n old (none_old n v e)) refl

  -- a listed variable is new
  pub listed_new : (n : ℕ) → IsSome (find listed_number n (listed_variables vars))
      → (v : GroupVar) × (find variable_number n vars ≡ Some v)
  listed_new n some = by (find variable_number n vars) refl
    where
      by : (o : Option GroupVar) → find variable_number n vars ≡ o
          → (v : GroupVar) × (find variable_number n vars ≡ Some v)
      by None e =
          absurd (not_some (find listed_number n (listed_variables vars)) (found_listed n
          ∙ ap (option_map as_listed) e) some)
      by (Some v) e = (v, e)

  pub unlisted_absent : (n : ℕ) → find listed_number n (listed_variables vars) ≡ None
      → list_any (λ v. v.number == n) vars ≡ false
  unlisted_absent n absent =
      sym (is_some-find (λ v. v.number == n) vars)
      ∙ ap is_some (by (find variable_number n vars) refl)
    where
      by : (o : Option GroupVar) → find variable_number n vars ≡ o
          → find variable_number n vars ≡ None
      by None e = e
      by (Some v) e =
          absurd (none-some (as_listed v) (sym absent
          ∙ (found_listed n ∙ ap (option_map as_listed) e)))

  -- no old variable has the number of a new one
  pub listed_are_new : All (IsRenamed (λ n. option_map (λ v. v.name) (find variable_number n old)))
      (listed_variables vars)
  listed_are_new =
      All-map (IsRenamed (λ n. option_map (λ v. v.name) (find variable_number n old))) as_listed
      vars (All-weaker (λ v. first ≤ v.number)
      (λ v. IsRenamed (λ n. option_map (λ w. w.name) (find variable_number n old))
      (as_listed v)) (λ v from same. none-some v.name
      (sym (ap (option_map (λ w. w.name)) (find-none_below variable_number v.number old
      (All-weaker (λ w. w.number < first) (λ w. w.number < v.number)
      (λ w lt. omega (arith, from)) old below))) ∙ same)) vars above)

  pub listed_names : Rise variable_number vars → ChangesNames (listed_variables vars)
      (λ n. option_map (λ v. v.name) (find variable_number n old))
      (λ n. option_map (λ v. v.name) (find variable_number n (old ++ vars)))
  listed_names rise = record {
    rising = record {
      rising = AllPairs-map {X = NameChange} (λ l k. l.number < k.number) as_listed
          (λ v w. v.number < w.number) vars (λ v w lt. lt) rise.rising;
    };
    named = added_name;
  }

pub added_leads : (model : ModelValue) (plan : EditPlan) (names : List (List ℕ)) (set : Set)
    → IsConsistent model → plan.names.group ≡ model.next.group
    → HasParts plan (record {
      number = model.next.group;
      content = Some (record {
        id = model.next.group;
        vars = numbered_from model.next.variable names;
        set = set;
      });
    } ∷ []) [] None (record model.next {
      group = model.next.group + 1;
      variable = model.next.variable + length names;
    }) (listed_variables
    (numbered_from model.next.variable names)) [] → LeadsToTarget model (add_group model names set) plan
added_leads model plan names set c in_group p =
    let vars : List GroupVar = numbered_from model.next.variable names in
    let group : Group = record { id = model.next.group; vars = vars; set = set } in
    let next : NextNumbers = record model.next {
      group = model.next.group + 1;
      variable = model.next.variable + length names;
    } in
    let last = set_all_last group_number group model.groups c.given_groups in
    let above = numbered_from_on model.next.variable names in
    let all : vars_in (model.groups ++ group ∷ []) ≡ variables model ++ vars =
    flat_map-append (λ g. g.vars) model.groups (group ∷ []) ∙ ap (λ vs. variables model ++ vs)
    (append-nil vars) in
    let same = listed_names model.next.variable vars (variables model) c.given_variables above
    (numbered_rise model.next.variable names) in
    subst (λ gs. LeadsToTarget model (record model { groups = gs; next = next }) plan) last
    (leads_group model plan model.next.group (Some group) next (listed_variables vars) p refl
    (λ e. none-some group (sym (find-none_below group_number model.next.group model.groups
    c.given_groups) ∙ e))
    (subst (λ gs. AreNameChanges plan.names model (record model { groups = gs; next = next })) (sym
    last)
    (AreNameChanges-groups plan.names (listed_variables vars) model (model.groups ++ group ∷ [])
    model.objective next p.variables p.row_names
    (subst (λ vs. ChangesNames (listed_variables vars) (variable_name model)
    (λ n. option_map (λ v. v.name) (find variable_number n vs))) (sym all) same)
    (λ n some. let v = listed_new model.next.variable vars (variables model) c.given_variables above
    n some in let none = no_group n (none_old model.next.variable vars (variables model)
    c.given_variables above n v.0 v.1) in (
      subst (λ o. IfSome (option_map (λ g. g.id) o) (λ id. id ≡ plan.names.group)) (sym none) tt,
      subst (λ o. IfSome (option_map (λ g. g.id) o) (λ id. id ≡ plan.names.group))
          (sym (find-append (has_variable n) model.groups (group ∷ [])
          ∙ ap (λ o. option_or o (cond (has_variable n group) (Some group) None)) none))
          (alone (has_variable n group) group (sym in_group)),
    ))
    (λ n absent. ap (option_map (λ g. g.id)) (find-append (has_variable n) model.groups (group ∷ [])
    ∙ (ap (λ b. option_or (group_of model n) (cond b (Some group) None))
    (unlisted_absent model.next.variable vars (variables model) c.given_variables above n
    absent) ∙ option_or-none (group_of model n))))))
    (listed_are_new model.next.variable vars (variables model) c.given_variables above))
  where
    no_group : (n : ℕ) → All (λ v. v.number < n) (variables model) → group_of model n ≡ None
    no_group n below =
        none_of (group_of model n) (group_found n model.groups ∙ list_any_none (λ v. v.number == n)
        (variables model) (All-weaker (λ v. v.number < n) (λ v. (v.number == n) ≡ false)
        (λ v lt. ne_eqb v.number n (λ e. omega arith)) (variables model) below))

    alone : (b : Bool) (g : Group) → g.id ≡ plan.names.group
        → IfSome (option_map (λ g. g.id) (cond b (Some g) None)) (λ id. id ≡ plan.names.group)
    alone true g e = e
    alone false g e = tt
