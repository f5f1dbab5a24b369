-- Plans with some parts lead from the model to the one with the contents set.
use Rattle.std.proofs.Common.{◌≡◌, ◌≢◌, ℕ, List, [], ◌∷◌, Option, Some, None, refl, sym, ap, subst, ◌∙◌}
use Rattle.std.specs.Prelude.{All, unwrap_or}
use Rattle.std.specs.Option.{option_map}
use Rattle.std.proofs.lemmas.List.Elements.{All-cons, All-nil}
use Rattle.std.proofs.lemmas.Option.{same_Some}
use Rattle.numbered_list.specs.declared.change.Change.{Change}
use Rattle.numbered_list.specs.Numbered.{IsAt, find, put, set_at}
use Rattle.numbered_list.specs.Changes.{AreChanges, set_all}
use Rattle.numbered_list.specs.ChangeLaws.{AreChanges-nil}
use Rattle.user_model.specs.declared.group.Group.{Group}
use Rattle.user_model.specs.declared.objective.Objective.{Objective}
use Rattle.user_model.specs.declared.row.Row.{Row}
use Rattle.user_model.specs.declared.undo.NextNumbers.{NextNumbers}
use Rattle.user_model.specs.Model.{ModelValue, row_named}
use Rattle.user_model.specs.Edited.{change_row, group_number, row_number}
use Rattle.user_model.specs.Consistent.{IsConsistent}
use Rattle.user_model.specs.Undone.{IsOldObjective}
use Rattle.model_laws.specs.Changed.{change_row-found}
use Rattle.model_laws.specs.ItemChanges.{one_change, set_to}
use Rattle.model_laws.specs.Located.{row_by_number}
use Rattle.model_laws.specs.Differing.{Differs, row_unchanged}
use Rattle.model_catalog.specs.declared.names.NameChange.{NameChange}
use Rattle.model_plans.specs.declared.plan.EditPlan.{EditPlan}
use Rattle.model_catalog.specs.Named.{AreNameChanges, ChangesNames, row_name, variable_name}
use Rattle.model_plans.specs.Plans.{HasParts, IsRenamed, LeadsToTarget}
use Rattle.model_plans.proofs.NamesListed.{AreNameChanges-rows, one_renamed, row_listed, row_names_in, row_unlisted, unlisted}

module _ (model : ModelValue) (plan : EditPlan) where
  abbrev pub made : List (Change Group) → List (Change Row) → Option Objective
      → NextNumbers → ModelValue
  made groups rows o next =
      record {
        groups = set_all group_number groups model.groups;
        rows = set_all row_number rows model.rows;
        objective = unwrap_or o model.objective;
        next = next;
      }

  module _ (groups : List (Change Group)) (rows : List (Change Row)) (o : Option Objective)
      (next : NextNumbers) (vs ns : List NameChange)
      (p : HasParts plan groups rows o next vs ns) where
    pub leads : AreChanges group_number groups → AreChanges row_number rows
        → All (Differs group_number model.groups) groups → All (Differs row_number model.rows) rows
        → IsOldObjective (unwrap_or o model.objective) model.objective o
        → AreNameChanges plan.names model (made groups rows o next)
        → All (IsRenamed (variable_name model)) vs → All (IsRenamed (row_name model)) ns
        → LeadsToTarget model (made groups rows o next) plan
    leads are_groups are_rows differ_groups differ_rows objective names variables_renamed
        rows_renamed = record {
          changes = record {
            groups = subst (AreChanges group_number) (sym p.groups) are_groups;
            rows = subst (AreChanges row_number) (sym p.rows) are_rows;
          };
          after = λ i. record {
            groups = set_all group_number (p.groups i) model.groups;
            rows = set_all row_number (p.rows i) model.rows;
            objective = unwrap_or (p.objective i)
                model.objective;
            next = p.next i;
          };
          groups = subst (All (Differs group_number model.groups)) (sym p.groups) differ_groups;
          rows = subst (All (Differs row_number model.rows)) (sym p.rows) differ_rows;
          objective = subst (IsOldObjective (unwrap_or o model.objective) model.objective)
              (sym p.objective) objective;
          names = names;
          variable_names = subst (All (IsRenamed (variable_name model))) (sym p.variables)
              variables_renamed;
          row_names = subst (All (IsRenamed (row_name model))) (sym p.row_names) rows_renamed;
        }

  -- the objective alone, or nothing
  pub leads_objective : (o : Option Objective) → HasParts plan [] [] o model.next [] []
      → IsOldObjective (unwrap_or o model.objective) model.objective o
      → LeadsToTarget model (record model { objective = unwrap_or o model.objective }) plan
  leads_objective o p is =
      leads [] [] o model.next [] [] p (AreChanges-nil group_number) (AreChanges-nil row_number)
      (All-nil (Differs group_number model.groups)) (All-nil (Differs row_number model.rows)) is
      (AreNameChanges-rows plan.names [] model model.rows (unwrap_or o model.objective)
      model.next p.variables p.row_names (unlisted (row_names_in model.rows)
      (row_names_in model.rows) (λ n. refl))) (All-nil (IsRenamed (variable_name model)))
      (All-nil (IsRenamed (row_name model)))

  pub leads_nowhere : HasParts plan [] [] None model.next [] [] → LeadsToTarget model model plan
  leads_nowhere p = leads_objective None p refl

  -- one row
  pub leads_row : (m : ℕ) (new : Option Row) (next : NextNumbers) (ns : List NameChange)
      → HasParts plan [] (record { number = m; content = new } ∷ []) None next [] ns
      → IsAt row_number m new → find row_number m model.rows ≢ new
      → ChangesNames ns (row_names_in model.rows)
      (row_names_in (set_at row_number m new model.rows)) → All (IsRenamed (row_name model)) ns
      → LeadsToTarget model (record model { rows = set_at row_number m new model.rows; next = next }) plan
  leads_row m new next ns p at ne names renamed =
      let c : Change Row = record { number = m; content = new } in
      leads [] (c ∷ []) None next [] ns p (AreChanges-nil group_number)
      (one_change row_number m new at) (All-nil (Differs group_number model.groups))
      (All-cons (Differs row_number model.rows) c [] ne
      (All-nil (Differs row_number model.rows))) refl (AreNameChanges-rows plan.names ns model
      (set_at row_number m new model.rows) model.objective next p.variables p.row_names names)
      (All-nil (IsRenamed (variable_name model))) renamed

  -- one group
  pub leads_group : (m : ℕ) (new : Option Group) (next : NextNumbers) (vs : List NameChange)
      → HasParts plan (record { number = m; content = new } ∷ []) [] None next vs []
      → IsAt group_number m new → find group_number m model.groups ≢ new
      → AreNameChanges plan.names model (record model {
        groups = set_at group_number m new
            model.groups;
        next = next;
      }) → All (IsRenamed (variable_name model)) vs
      → LeadsToTarget model (record model {
        groups = set_at group_number m new model.groups;
        next = next;
      }) plan
  leads_group m new next vs p at ne names renamed =
      let c : Change Group = record { number = m; content = new } in
      leads (c ∷ []) [] None next vs [] p (one_change group_number m new at)
      (AreChanges-nil row_number) (All-cons (Differs group_number model.groups) c [] ne
      (All-nil (Differs group_number model.groups))) (All-nil (Differs row_number model.rows))
      refl names renamed (All-nil (IsRenamed (row_name model)))

  module _ (c : IsConsistent model) (name : List ℕ) (h : Row → Row) (row : Row)
      (found : row_named model name ≡ Some row) where
    -- a row that is changed to itself
    pub leads_same_row : h row ≡ row → HasParts plan [] [] None model.next [] []
        → LeadsToTarget model (change_row model name h) plan
    leads_same_row same p =
        subst (λ after. LeadsToTarget model after plan) (sym (row_unchanged model c name h row found same))
        (leads_nowhere p)

    -- a row that is changed to another
    module _ (id : (h row).id ≡ row.id) (ne : h row ≢ row) where
      there : find row_number (h row).id model.rows ≡ Some row
      there = ap (λ n. find row_number n model.rows) id ∙ row_by_number model name row c found

      leads_new_row : (ns : List NameChange)
          → HasParts plan [] (set_to row_number (h row) ∷ []) None model.next [] ns
          → ChangesNames ns (row_names_in model.rows)
          (row_names_in (put row_number (h row) model.rows)) → All (IsRenamed (row_name model)) ns
          → LeadsToTarget model (change_row model name h) plan
      leads_new_row ns p names renamed =
          subst (λ after. LeadsToTarget model after plan) (sym (change_row-found model name h row found))
          (leads_row (h row).id (Some (h row)) model.next ns p refl
          (λ same. ne (sym (same_Some row (h row) (sym there ∙ same)))) names renamed)

      pub leads_changed_row : (h row).name ≡ row.name
          → HasParts plan [] (set_to row_number (h row) ∷ []) None model.next [] []
          → LeadsToTarget model (change_row model name h) plan
      leads_changed_row named p =
          leads_new_row [] p (row_unlisted (h row).id (Some (h row)) model.rows refl (ap Some named
          ∙ sym (ap (option_map (λ r. r.name)) there))) (All-nil (IsRenamed (row_name model)))

      pub leads_renamed_row : (l : NameChange) → l.number ≡ (h row).id → l.name ≡ Some (h row).name
          → row.name ≢ (h row).name
          → HasParts plan [] (set_to row_number (h row) ∷ []) None model.next [] (l ∷ [])
          → LeadsToTarget model (change_row model name h) plan
      leads_renamed_row l number listed other p =
          let stood : row_name model l.number ≡ Some row.name =
          ap (option_map (λ r. r.name)) (ap (λ n. find row_number n model.rows)
          number ∙ there) in
          leads_new_row (l ∷ []) p (row_listed l (h row).id (Some (h row)) model.rows refl number
          (sym listed)) (one_renamed (row_name model) l
          (λ same. other (same_Some row.name (h row).name (sym stood ∙ (same ∙ listed)))))

-- the same parts
pub parts_same : {plan : EditPlan} {gs : List (Change Group)} {rs : List (Change Row)}
    {o : Option Objective} {k : NextNumbers} {vs ns : List NameChange}
    → HasParts plan gs rs o k vs ns → (groups : List (Change Group)) (rows : List (Change Row))
    (next : NextNumbers) (variables row_names : List NameChange) → gs ≡ groups → rs ≡ rows
    → k ≡ next → vs ≡ variables → ns ≡ row_names
    → HasParts plan groups rows o next variables row_names
parts_same p groups rows next variables row_names a b c d e =
    record {
      groups = p.groups ∙ a;
      rows = p.rows ∙ b;
      objective = p.objective;
      next = p.next ∙ c;
      variables = p.variables ∙ d;
      row_names = p.row_names ∙ e;
    }
