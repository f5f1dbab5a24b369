-- The plan of a deletion of a variable.
use Rattle.std.proofs.Common.{◌≡◌, ◌≢◌, ℕ, ◌<◌, ◌==◌, Bool, true, false, cond, List, [], ◌∷◌, Option, Some, None, refl, sym, ap, subst, ◌∙◌, inl, inr}
use Rattle.std.specs.Prelude.{All, IfSome, filter, is_some, not, slice_index_or, unwrap_or}
use Rattle.std.specs.List as list
use Rattle.std.specs.List.{cons_option, filter_map, list_any}
use Rattle.std.specs.Option.{is_none, option_and_then, option_map, option_map_or}
use Rattle.std.proofs.lemmas.Bool.{both_ways, cases_Bool, cases_eq, eq-eqb, ne_eqb}
use Rattle.std.proofs.lemmas.List.Elements.{All-filter, All-map, filter_passes}
use Rattle.std.proofs.lemmas.Option.{none-some}
use Rattle.map_laws.specs.OptionLaws.{none_of}
use Rattle.numbered_list.specs.declared.change.Change.{Change}
use Rattle.numbered_list.specs.Numbered.{Rise, find}
use Rattle.numbered_list.specs.Changes.{changed_number, set_all}
use Rattle.numbered_list.specs.Laws.{Rise-filter, find-filter_map, number_of_found}
use Rattle.aff_core.specs.Address.{Address}
use Rattle.user_model.specs.declared.group.Group.{Group}
use Rattle.user_model.specs.declared.group.GroupVar.{GroupVar}
use Rattle.user_model.specs.declared.objective.Objective.{Objective}
use Rattle.user_model.specs.declared.row.Row.{Row}
use Rattle.user_model.specs.Model.{ModelValue, group_of, has_variable, row_mentions, variable_address, variable_named, variables}
use Rattle.user_model.specs.Deletion.{group_without, objective_without, row_without, unless_empty, without_variable}
use Rattle.user_model.specs.Edited.{group_number, row_number, with_variable}
use Rattle.user_model.specs.Consistent.{IsConsistent, variable_number}
use Rattle.user_model.specs.Undone.{IsOldObjective}
use Rattle.model_laws.specs.Changed.{with_variable-found}
use Rattle.model_laws.specs.Found.{something}
use Rattle.model_laws.specs.Located.{variable_of_name}
use Rattle.model_laws.specs.GroupWithout.{group_keeps_number, others, others_stand, vars_without}
use Rattle.model_laws.specs.KeptDeletion.{row_keeps_number}
use Rattle.model_laws.specs.ItemChanges.{edit_of, edits_of, find-filter, one_change}
use Rattle.model_laws.specs.Mentions.{failing_none, row_unmentioned}
use Rattle.map_laws.specs.PairLaws.{AllPairs-map}
use Rattle.model_laws.specs.DeletionChanges.{AreChanges-deletion, deletion_changes, deletion_makes, group_deletion, group_deletion_makes}
use Rattle.model_laws.specs.RowWithout.{IsRowWithout, row_without_is}
use Rattle.model_laws.specs.Differing.{Differs, deletion_differs, group_deletion_differs}
use Rattle.model_laws.specs.Variables.{group_found, vars_in}
use Rattle.model_catalog.specs.declared.names.NameChange.{NameChange}
use Rattle.model_plans.specs.declared.plan.EditPlan.{EditPlan}
use Rattle.model_catalog.specs.Names.{listed_as, listed_number}
use Rattle.model_catalog.specs.Named.{IsInGroup, AreNameChanges, ChangesNames, variable_name}
use Rattle.model_plans.specs.Plans.{HasParts, IsChange, IsRenamed, LeadsToTarget, gone}
use Rattle.model_plans.proofs.Finding.{find-mapped, found_by_number}
use Rattle.model_plans.proofs.NamesListed.{one_listed, one_renamed, row_names_in}
use Rattle.model_plans.proofs.Leading.{leads, made}

-- ---- groups

module _ (m n : ℕ) (ne : m ≢ n) where
  -- what is left of a group stands where it had another variable
  record IsLeft (g : Group) (left : Option Group) : Type 0 where
    some : IfSome left (λ l. (l.id ≡ g.id) × (has_variable m l ≡ has_variable m g))
    none : left ≡ None → has_variable m g ≡ false

  left_is : (g : Group) → IsLeft g (group_without n g)
  left_is g =
      elim (cases_Bool (has_variable n g)) [
        | inl has ↦ subst (λ b. IsLeft g
            (cond b (unless_empty (λ left set. record g { vars = left; set = set }) g.set
            (others n g.vars)) (Some g))) (sym has) (by (others n g.vars)
            (others_stand m n g.vars ne))
        | inr lacks ↦ subst (λ b. IsLeft g
            (cond b (unless_empty (λ left set. record g { vars = left; set = set }) g.set
            (others n g.vars)) (Some g))) (sym lacks) (record {
              some = (refl, refl);
              none = λ e. cc;
            })
      ]
    where
      by : (vars : List GroupVar) → list_any (λ v. v.number == m) vars ≡ has_variable m g
          → IsLeft g (unless_empty (λ left set. record g { vars = left; set = set }) g.set vars)
      by [] e = record { some = tt; none = λ is. sym e }
      by (v ∷ vars) e = record { some = (refl, e); none = λ is. cc }

  ids_step : (g : Group) (left : Option Group) (rest all : List Group) → IsLeft g left
      → option_map (λ g. g.id) (list.find (has_variable m) rest) ≡ option_map (λ g. g.id)
      (list.find (has_variable m) all) → option_map (λ g. g.id)
      (list.find (has_variable m) (cons_option left rest)) ≡ option_map (λ g. g.id)
      (list.find (has_variable m) (g ∷ all))
  ids_step g None rest all is e =
      e ∙ sym (ap (λ b. option_map (λ g. g.id) (cond b (Some g) (list.find (has_variable m) all)))
      (is.none refl))
  ids_step g (Some left) rest all is e =
      let facts = is.some in
      ap (λ b. option_map (λ g. g.id) (cond b (Some left) (list.find (has_variable m) rest)))
      facts.1
      ∙ elim (has_variable m g) as (λ b. option_map (λ g. g.id)
      (cond b (Some left) (list.find (has_variable m) rest)) ≡ option_map (λ g. g.id)
      (cond b (Some g) (list.find (has_variable m) all))) [ true ↦ ap Some facts.0 | false ↦ e ]

  -- another variable keeps its group
  pub ids_without : (groups : List Group)
      → option_map (λ g. g.id) (list.find (has_variable m) (filter_map (group_without n) groups))
      ≡ option_map (λ g. g.id) (list.find (has_variable m) groups)
  ids_without [] = refl
  ids_without (g ∷ groups) =
      ids_step g (group_without n g) (filter_map (group_without n) groups) groups (left_is g)
      (ids_without groups)

-- the variable has no group any more
pub none_in_group : (n : ℕ) (groups : List Group)
    → list.find (has_variable n) (filter_map (group_without n) groups) ≡ None
none_in_group n groups =
    none_of (list.find (has_variable n) (filter_map (group_without n) groups))
    (group_found n (filter_map (group_without n) groups)
    ∙ (ap (list_any (λ v. v.number == n)) (vars_without n groups)
    ∙ failing_none (λ v. v.number == n) (vars_in groups)))

-- ---- names of variables

found_others : (m n : ℕ) (groups : List Group) → Rise variable_number (vars_in groups)
    → find variable_number m (vars_in (filter_map (group_without n) groups))
    ≡ option_and_then (λ v. cond (not (v.number == n)) (Some v) None)
    (find variable_number m (vars_in groups))
found_others m n groups rise =
    ap (find variable_number m) (vars_without n groups)
    ∙ find-filter variable_number (λ v. not (v.number == n)) m (vars_in groups) rise

name_gone : (n : ℕ) (groups : List Group) → Rise variable_number (vars_in groups)
    → option_map (λ v. v.name) (find variable_number n
    (vars_in (filter_map (group_without n) groups))) ≡ None
name_gone n groups rise =
    ap (option_map (λ v. v.name)) (found_others n n groups rise)
    ∙ by (find variable_number n (vars_in groups)) refl
  where
    by : (o : Option GroupVar) → find variable_number n (vars_in groups) ≡ o
        → option_map (λ v. v.name) (option_and_then (λ v. cond (not (v.number == n)) (Some v) None)
        o) ≡ None
    by None e = refl
    by (Some v) e =
        ap (λ b. option_map (λ v. v.name) (cond (not b) (Some v) None))
        (eq-eqb v.number n (number_of_found variable_number n v (vars_in groups) e))

name_left : (m n : ℕ) (groups : List Group) → m ≢ n → Rise variable_number (vars_in groups)
    → option_map (λ v. v.name) (find variable_number m
    (vars_in (filter_map (group_without n) groups))) ≡ option_map (λ v. v.name)
    (find variable_number m (vars_in groups))
name_left m n groups ne rise =
    ap (option_map (λ v. v.name)) (found_others m n groups rise)
    ∙ by (find variable_number m (vars_in groups)) refl
  where
    by : (o : Option GroupVar) → find variable_number m (vars_in groups) ≡ o
        → option_map (λ v. v.name) (option_and_then (λ v. cond (not (v.number == n)) (Some v) None)
        o) ≡ option_map (λ v. v.name) o
    by None e = refl
    by (Some v) e =
        ap (λ b. option_map (λ v. v.name) (cond (not b) (Some v) None))
        (ne_eqb v.number n (λ same. ne (sym (number_of_found variable_number m v
        (vars_in groups) e) ∙ same)))

-- ---- names of rows

module _ (at : Address) (rows : List Row) (rise : Rise row_number rows) where
  abbrev changes : List (Change Row)
  changes = edits_of row_number (row_without at) (row_mentions at) rows

  abbrev as_gone : Change Row → NameChange
  as_gone c = listed_as c.number None

  found_gone : (m : ℕ) → Rise changed_number changes → find listed_number m (gone changes)
      ≡ option_map as_gone (option_and_then (λ c. cond (is_none c.content) (Some c) None)
      (option_map (edit_of row_number (row_without at))
      (option_and_then (λ r. cond (row_mentions at r) (Some r) None) (find row_number m rows))))
  found_gone m up =
      find-mapped {X = Change Row} changed_number listed_number as_gone (λ c. refl) m
      (filter {X = Change Row} (λ c. is_none c.content) changes)
      ∙ ap (option_map as_gone) (find-filter {X = Change Row} changed_number
      (λ c. is_none c.content) m changes up
      ∙ ap (option_and_then {T = Change Row} (λ c. cond (is_none c.content) (Some c) None))
      (find-mapped {X = Row} {Y = Change Row} row_number changed_number
      (edit_of row_number (row_without at)) (λ r. refl) m (filter (row_mentions at) rows)
      ∙ ap (option_map (edit_of row_number (row_without at)))
      (find-filter row_number (row_mentions at) m rows rise)))

  -- what is listed of a row that mentions the variable, or doesn't
  abbrev seen : Row → Bool → Option (List ℕ)
  seen r b =
      option_map_or (λ l. l.name) (option_map as_gone
      (option_and_then (λ c. cond (is_none c.content) (Some c) None)
      (option_map (edit_of row_number (row_without at)) (cond b (Some r) None)))) (Some r.name)

  -- the name of a row, and what is listed of it
  one_row : (o : Option Row) → option_map (λ r. r.name) (option_and_then (row_without at) o)
      ≡ option_map_or (λ l. l.name)
      (option_map as_gone (option_and_then (λ c. cond (is_none c.content) (Some c) None)
      (option_map (edit_of row_number (row_without at))
      (option_and_then (λ r. cond (row_mentions at r) (Some r) None) o))))
      (option_map (λ r. r.name) o)
  one_row None = refl
  one_row (Some r) = by (row_mentions at r) refl
    where
      left : (o : Option Row) → row_without at r ≡ o
          → option_map (λ r. r.name) o ≡ option_map_or (λ l. l.name)
          (option_map as_gone (cond (is_none o)
          (Some (record { number = r.id; content = o })) None)) (Some r.name)
      left None e = refl
      left (Some l) e =
          ap Some (subst (λ o. IfSome o (λ l. l.name ≡ r.name)) e
          (named (row_without at r) (row_without_is at r)))
        where
          named : (o : Option Row) → IfSome o (IsRowWithout at r) → IfSome o (λ l. l.name ≡ r.name)
          named None h = tt
          named (Some l) h = h.name

      by : (b : Bool) → row_mentions at r ≡ b → option_map (λ r. r.name) (row_without at r)
          ≡ seen r (row_mentions at r)
      by false e = ap (option_map (λ r. r.name)) (row_unmentioned at r e) ∙ sym (ap (seen r) e)
      by true e = left (row_without at r) refl ∙ sym (ap (seen r) e)

  pub rows_gone : ChangesNames (gone changes) (row_names_in rows)
      (row_names_in (filter_map (row_without at) rows))
  rows_gone =
      let up : Rise changed_number changes =
      record {
        rising = AllPairs-map {X = Change Row} (λ c d. c.number < d.number)
            (edit_of row_number (row_without at)) (λ r s. r.id < s.id)
            (filter (row_mentions at) rows)
            (λ r s lt. lt) (Rise-filter row_number (row_mentions at) rows rise).rising;
      } in
      let kept = Rise-filter {X = Change Row} changed_number (λ c. is_none c.content) changes up in
      record {
        rising = record {
          rising = AllPairs-map {X = NameChange} (λ l k. l.number < k.number)
              {Y = Change Row} as_gone (λ c d. c.number < d.number)
              (filter {X = Change Row} (λ c. is_none c.content) changes) (λ c d lt. lt) kept.rising;
        };
        named = λ m. ap (option_map (λ r. r.name)) (find-filter_map row_number (row_without at) m
            rows (row_keeps_number at) rise) ∙ (one_row (find row_number m rows)
            ∙ sym (ap (λ o. option_map_or {T = NameChange} (λ l. l.name) o (row_names_in rows m))
            (found_gone m up)));
      }

-- each row that goes had a name
pub gone_renamed : (rows : List Row) (cs : List (Change Row)) → All (Differs row_number rows) cs
    → All (IsRenamed (row_names_in rows)) (gone cs)
gone_renamed rows cs differ =
    All-map {X = NameChange} (IsRenamed (row_names_in rows)) {Y = Change Row}
    (λ c. listed_as c.number None) going (λ k d end same.
    let c : Change Row = slice_index_or going k d in
    let other : find row_number c.number rows ≢ c.content =
    All-filter {X = Change Row} (λ c. is_none c.content)
    (Differs row_number rows) cs differ k d end in
    other (unnamed (find row_number c.number rows) same
    ∙ sym (no_content c.content (filter_passes {X = Change Row} (λ c. is_none c.content)
    cs k d end))))
  where
    going : List (Change Row)
    going = filter {X = Change Row} (λ c. is_none c.content) cs

    unnamed : (o : Option Row) → option_map (λ r. r.name) o ≡ None → o ≡ None
    unnamed None e = refl
    unnamed (Some r) e = absurd (none-some r.name (sym e))

    no_content : (o : Option Row) → is_none o ≡ true → o ≡ None
    no_content None e = refl
    no_content (Some r) e = absurd (both_ways false refl e)

-- ---- the plan

module _ (model : ModelValue) (plan : EditPlan) (c : IsConsistent model) (name : List ℕ) (n : ℕ)
    (named : variable_named model name ≡ Some n) (group : Group)
    (found : group_of model n ≡ Some group) where
  abbrev pub at : Address
  at = variable_address n

  target_names : plan.names.group ≡ group.id → plan.names.variables.items ≡ listed_as n None ∷ []
      → plan.names.rows.items ≡ gone (deletion_changes model n)
      → AreNameChanges plan.names model (without_variable model n)
  target_names in_group vs ns = record {
    variables = subst (λ ls. ChangesNames ls (variable_name model)
        (variable_name (without_variable model n))) (sym vs)
        (one_listed (listed_as n None) (variable_name model)
        (variable_name (without_variable model n)) (name_gone n model.groups c.variables_rise)
        (λ m off. name_left m n model.groups off c.variables_rise));
    rows = subst (λ ls. ChangesNames ls (row_names_in model.rows)
        (row_names_in (filter_map (row_without at) model.rows))) (sym ns)
        (rows_gone at model.rows c.rows_rise);
    in_group = λ m some. elim (cases_eq n m) [
      | inl same ↦
          subst (λ k. IsInGroup plan.names.group model k × IsInGroup plan.names.group
          (without_variable model n) k) same (
            subst (λ o. IfSome (option_map (λ g. g.id) o) (λ id. id ≡ plan.names.group)) (sym found)
                (sym in_group),
            subst (λ o. IfSome (option_map (λ g. g.id) o) (λ id. id ≡ plan.names.group))
                (sym (none_in_group n model.groups)) tt,
          )
      | inr other ↦ absurd (both_ways (is_some (find listed_number m plan.names.variables.items))
          (ap (λ ls. is_some (find listed_number m ls)) vs
          ∙ ap (λ b. is_some (cond b (Some (listed_as n None)) None)) (ne_eqb n m other)) some)
    ];
    others = λ m absent. elim (cases_eq n m) [
      | inl same ↦ absurd (both_ways (is_some (find listed_number m plan.names.variables.items))
          (ap is_some absent) (ap (λ ls. is_some (find listed_number m ls)) vs
          ∙ ap (λ b. is_some (cond b (Some (listed_as n None)) None)) (eq-eqb n m same)))
      | inr other ↦ ids_without m n (λ e. other (sym e)) model.groups
    ];
  }

  -- the objective is left as it is, or is what the deletion leaves of it
  abbrev pub IsLeftObjective : Option Objective → Type 0
  IsLeftObjective o = IsChange model.objective (objective_without at model.objective) o

  objective_left : (o : Option Objective) → IsLeftObjective o
      → unwrap_or o model.objective ≡ objective_without at model.objective
  objective_left None e = sym e
  objective_left (Some left) e = e.0

  old_left : (o : Option Objective) → IsLeftObjective o
      → IsOldObjective (unwrap_or o model.objective) model.objective o
  old_left None e = refl
  old_left (Some left) e = (refl, e.1)

  gone_variable : IsRenamed (variable_name model) (listed_as n None)
  gone_variable same =
      let var = variable_of_name model name n named in
      let at = something (find variable_number n (variables model))
      (found_by_number variable_number n var.0 (variables model) var.1 var.2) in
      none-some at.0.name (sym same ∙ ap (option_map (λ v. v.name)) at.1)

  pub deleted_leads : (o : Option Objective) → IsLeftObjective o → plan.names.group ≡ group.id
      → HasParts plan (record { number = group.id; content = group_without n group } ∷ [])
      (deletion_changes model n) o model.next (listed_as n None ∷ [])
      (gone (deletion_changes model n))
      → LeadsToTarget model (with_variable model name (without_variable model)) plan
  deleted_leads o left in_group p =
      let cs : List (Change Group) = record {
        number = group.id;
        content = group_without n group;
      } ∷ [] in
      let planned : group_deletion model n ≡ cs =
      ap (λ o. option_map_or (λ g. record { number = g.id; content = group_without n g } ∷ [])
      o []) found in
      let groups : set_all group_number cs model.groups
      ≡ filter_map (group_without n) model.groups = subst (λ ds. set_all group_number ds
      model.groups ≡ filter_map (group_without n) model.groups) planned (group_deletion_makes
      model name n c named) in
      let rows = deletion_makes model n c in
      let objective = objective_left o left in
      let target : made model plan cs (deletion_changes model n) o model.next
      ≡ without_variable model n = λ i. record {
        groups = groups i;
        rows = rows i;
        objective = objective i;
        next = model.next;
      } in
      subst (λ after. LeadsToTarget model after plan) (target
      ∙ sym (with_variable-found model name (without_variable model) n named))
      (leads model plan cs (deletion_changes model n) o model.next (listed_as n None ∷ [])
      (gone (deletion_changes model n)) p (one_change group_number group.id
      (group_without n group) ((group_keeps_number n).keeps group))
      (AreChanges-deletion model n c) (subst (All (Differs group_number model.groups)) planned
      (group_deletion_differs model c n group found)) (deletion_differs model c n)
      (old_left o left) (subst (AreNameChanges plan.names model) (sym target)
      (target_names in_group p.variables p.row_names)) (one_renamed (variable_name model)
      (listed_as n None) gone_variable) (gone_renamed model.rows (deletion_changes model n)
      (deletion_differs model c n)))
