-- The edits of the dual, put together: groups one after another, and the whole.
use Rattle.std.specs.Prelude.{◌≡◌, ℕ, suc, ◌+◌, List, [], ◌∷◌, ◌++◌, All, flat_map, length, map, refl}
use Rattle.std.specs.List.{IsDistinct}
use Rattle.std.specs.Str.{bytes_eq}
use Rattle.std.proofs.Common.{sym, ◌∙◌, ap, ap₂, arith}
use Rattle.std.proofs.lemmas.List.{append_assoc, length-append, length-map, map-append}
use Rattle.std.proofs.lemmas.List.Elements.{All-weaker}
use Rattle.user_model.specs.declared.edit.Edit.TheVariants as edit
use Rattle.user_model.specs.declared.edit.NamedFunc.TheVariants as named
use Rattle.user_model.specs.declared.group.Group.{Group}
use Rattle.user_model.specs.declared.row.Row.{Row}
use Rattle.user_model.specs.Model.{ModelValue}
use Rattle.user_model.specs.Valid.{IsValid, IsValidRow}
use Rattle.certificates.specs.DualPointLaws.{component_count}
use Rattle.certificates.specs.Points.{objective_value, sense_of}
use Rattle.group_numbering.specs.NewGroups.{NewGroup, variable_count}
use Rattle.group_numbering.specs.PlaceLaws.{count-append}
use Rattle.dual_model.specs.DualOf.{at_bounds, bound_numbers, costs, dual_objective_of, each_placed, group_groups, new_groups, opposite, row_groups, row_variables, signed}
use Rattle.dual_model.specs.GroupRowLaws.{count-groups, length-own, own_total}
use Rattle.dual_model.specs.LaidLaws.{equal_adds}
use Rattle.dual_model.specs.RowPartLaws.{count-rows, length-costs, total_parts}
use Rattle.dualization.specs.declared.sums.Sums.{Sums}
use Rattle.dualization.specs.DualEdits.{dual_edits, dual_names, edit_of_group, edits_of_objective, names_added}
use Rattle.dualization.specs.Rows.{ColumnsFit, IsObjectiveOf, all_bounds, edit_of_objective}
use Rattle.dualization.proofs.ApartLemmas.{HasFewComponents, names_distinct}
use Rattle.dualization.proofs.RowLemmas.{edits_from}
use Rattle.dualization.proofs.TermLemmas.{function_named}
use Rattle.dualization.proofs.ValidLemmas.{few_groups, few_rows, length-column, row_sets}

-- ---- groups, from place k on

pub next_placed : {X : Type 0} (f : ℕ → X → List NewGroup) (k : ℕ) (x : X) (xs : List X)
    → map edit_of_group (each_placed f k (x ∷ xs))
    ≡ map edit_of_group (f k x) ++ map edit_of_group (each_placed f (k + 1) xs)
next_placed f k x xs =
    let next : suc k ≡ k + 1 = omega arith in
    map-append edit_of_group (f k x) (each_placed f (suc k) xs)
    ∙ ap (λ j. map edit_of_group (f k x) ++ map edit_of_group (each_placed f j xs)) next

pub names_are : (gs : List NewGroup)
    → flat_map names_added (map edit_of_group gs) ≡ flat_map (λ g. g.names) gs
names_are [] = refl
names_are (g ∷ gs) = ap (λ ns. g.names ++ ns) (names_are gs)

length-names : (gs : List NewGroup) → length (flat_map (λ (g : NewGroup). g.names) gs) ≡ variable_count gs
length-names [] = refl
length-names (g ∷ gs) =
    length-append g.names (flat_map (λ (g : NewGroup). g.names) gs)
    ∙ ap (λ n. length g.names + n) (length-names gs)

-- ---- a valid model

few_components : (groups : List Group) (r : Row) → IsValidRow groups r → HasFewComponents r
few_components groups r h = omega (arith, h.limit, component_count r.func)

module _ (model : ModelValue) (valid : IsValid model) where
  pub few : All HasFewComponents model.rows
  few = All-weaker (IsValidRow model.groups) HasFewComponents (few_components model.groups) model.rows
      valid.parts.valid_rows

  pub are_distinct : IsDistinct bytes_eq (dual_names model)
  are_distinct =
      names_distinct model.rows model.groups few (few_rows model valid) (few_groups model valid)

  pub row_variables_are : row_variables model ≡ total_parts model.rows
  row_variables_are = count-rows 1 model.rows

  pub size_is : variable_count (new_groups model) ≡ total_parts model.rows + own_total model.groups
  size_is =
      count-append (each_placed row_groups 1 model.rows) (each_placed group_groups 1 model.groups)
      ∙ ap₂ ◌+◌ row_variables_are (count-groups 1 model.groups)

  pub names_count : length (dual_names model) ≡ total_parts model.rows + own_total model.groups
  names_count = length-names (new_groups model) ∙ size_is

  pub columns_fit : ColumnsFit model (total_parts model.rows)
  columns_fit v = omega (arith, length-column model.rows v (row_sets model valid))

  module _ (sums : Sums) (is : IsObjectiveOf model sums) where
    pub parts_count : length sums.parts ≡ total_parts model.rows
    parts_count =
        ap length is.parts
        ∙ length-costs (at_bounds model) (λ p q. p ≡ q) equal_adds (at_bounds model) model.rows
        (row_sets model valid)

    all_costs : sums.parts ++ all_bounds model.groups ≡ costs model
    all_costs = ap (λ ps. ps ++ all_bounds model.groups) is.parts

    size_of_costs : length (map (signed (sense_of model.objective)) (costs model))
        ≡ total_parts model.rows + own_total model.groups
    size_of_costs =
        length-map (costs model) (signed (sense_of model.objective))
        ∙ ap length (sym all_costs) ∙ length-append sums.parts (all_bounds model.groups)
        ∙ ap₂ ◌+◌ parts_count (length-own model.groups)

    objective_is : edit_of_objective (dual_names model) (sense_of model.objective) sums.constant
        (sums.parts ++ all_bounds model.groups) ∷ []
        ≡ edits_of_objective (dual_names model) (dual_objective_of model)
    objective_is =
        ap₂ (λ k cs. edit_of_objective (dual_names model) (sense_of model.objective) k cs ∷ [])
        is.constant all_costs
        ∙ ap (λ f. edit.Objective (opposite (sense_of model.objective)) (named.Affine f) ∷ [])
        (sym (function_named (dual_names model)
        (map (signed (sense_of model.objective)) (costs model))
        (objective_value model (bound_numbers model.groups))
        (omega (arith, size_of_costs, names_count))))

    pub edits_are : (map edit_of_group (new_groups model)
        ++ edits_from (dual_names model) model 0 1 (length sums.parts) model.groups)
        ++ edit_of_objective (dual_names model) (sense_of model.objective) sums.constant
        (sums.parts ++ all_bounds model.groups) ∷ []
        ≡ dual_edits model
    edits_are =
        append_assoc (map edit_of_group (new_groups model))
        (edits_from (dual_names model) model 0 1 (length sums.parts) model.groups)
        (edit_of_objective (dual_names model) (sense_of model.objective) sums.constant
        (sums.parts ++ all_bounds model.groups) ∷ [])
        ∙ ap (λ es. map edit_of_group (new_groups model) ++ es)
        (ap₂ ◌++◌ (ap (λ n. edits_from (dual_names model) model 0 1 n model.groups)
        (parts_count ∙ sym row_variables_are)) objective_is)
