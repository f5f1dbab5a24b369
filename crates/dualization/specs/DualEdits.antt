-- The edits that make the dual of a model from an empty model: its groups, its rows and its
-- objective, with each variable by its name.
use Rattle.std.specs.Prelude.{ℕ, List, [], ◌∷◌, ◌++◌, flat_map, map, slice_index_or}
use Rattle.ratio_core.specs.Rational.{Rational}
use Rattle.aff_core.specs.Address.{Address}
use Rattle.aff_core.specs.Function.{Function, terms_of}
use Rattle.named_aff.specs.declared.aff.NamedAff.{NamedAff}
use Rattle.named_aff.specs.declared.terms.NamedTerm.{NamedTerm}
use Rattle.user_model.specs.declared.edit.Edit.{Edit}
use Rattle.user_model.specs.declared.edit.Edit.TheVariants.{AddGroup, AddRow}
use Rattle.user_model.specs.declared.edit.Edit.TheVariants as edit
use Rattle.user_model.specs.declared.edit.NamedFunc.{NamedFunc}
use Rattle.user_model.specs.declared.edit.NamedFunc.TheVariants as named
use Rattle.user_model.specs.declared.function.UserFunc.{UserFunc}
use Rattle.user_model.specs.declared.function.UserFunc.TheVariants.{Affine, AffineVec, Plain, PlainVec}
use Rattle.user_model.specs.declared.objective.Objective.{Objective}
use Rattle.user_model.specs.declared.objective.Objective.TheVariants as objective
use Rattle.user_model.specs.declared.row.Row.{Row}
use Rattle.user_model.specs.Model.{ModelValue}
use Rattle.group_numbering.specs.NewGroups.{NewGroup}
use Rattle.dual_model.specs.DualOf.{dual_objective_of, dual_rows, new_groups}

-- the names of the dual's variables, in the order of their numbers
abbrev pub dual_names : ModelValue → List (List ℕ)
dual_names model = flat_map (λ g. g.names) (new_groups model)

abbrev pub edit_of_group : NewGroup → Edit
edit_of_group g = AddGroup g.names g.set

-- the names of the variables that an edit adds
abbrev pub names_added : Edit → List (List ℕ)
names_added (AddGroup names set) = names
names_added _ = []

module _ (names : List (List ℕ)) where
  abbrev pub name_of : Address → List ℕ
  name_of at = slice_index_or names at.number []

  abbrev pub term_by_name : Address × Rational → NamedTerm
  term_by_name t = record { variable = name_of t.0; coefficient = t.1 }

  abbrev pub affine_by_name : Function → NamedAff
  affine_by_name f = record { terms = map term_by_name (terms_of f); constant = f.constant }

  abbrev pub function_by_name : UserFunc → NamedFunc
  function_by_name (Plain var) = named.Plain (name_of var)
  function_by_name (Affine f) = named.Affine (affine_by_name f)
  function_by_name (PlainVec vars) = named.PlainVec (map name_of vars)
  function_by_name (AffineVec fs) = named.AffineVec (map affine_by_name fs)

  abbrev pub edit_of_row : Row → Edit
  edit_of_row r = AddRow r.name (function_by_name r.func) r.set

  abbrev pub edits_of_objective : Objective → List Edit
  edits_of_objective objective.Feasibility = []
  edits_of_objective (objective.Plain sense var) =
      edit.Objective sense (named.Plain (name_of var)) ∷ []
  edits_of_objective (objective.Affine sense f) =
      edit.Objective sense (named.Affine (affine_by_name f)) ∷ []

abbrev pub dual_edits : ModelValue → List Edit
dual_edits model =
    let names = dual_names model in
    map edit_of_group (new_groups model)
    ++ (map (edit_of_row names) (dual_rows model)
    ++ edits_of_objective names (dual_objective_of model))
