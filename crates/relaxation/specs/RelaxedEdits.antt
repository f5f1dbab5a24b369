-- The edits that lead from a model to its relaxation: a group for each slack, then the slacks'
-- coefficients in the rows, and then the objective.
use Rattle.std.specs.Prelude.{ℕ, List, [], ◌∷◌, ◌++◌, drop, length, map, take}
use Rattle.ratio_core.specs.Rational.{Rational, one_ℚ, zero_ℚ}
use Rattle.aff_core.specs.declared.sense.Sense.TheVariants.{Min}
use Rattle.named_aff.specs.declared.terms.NamedTerm.{NamedTerm}
use Rattle.set_core.specs.declared.set.Set.TheVariants.{Nonnegatives}
use Rattle.user_model.specs.declared.edit.Edit.{Edit}
use Rattle.user_model.specs.declared.edit.Edit.TheVariants.{AddGroup, Coef}
use Rattle.user_model.specs.declared.edit.Edit.TheVariants as edit
use Rattle.user_model.specs.declared.edit.NamedFunc.TheVariants as named
use Rattle.user_model.specs.declared.row.Row.{Row}
use Rattle.user_model.specs.Model.{ModelValue}
use Rattle.relaxed_model.specs.Relaxed.{row_signs, slack_names}

abbrev pub edit_of_slack : List ℕ → Edit
edit_of_slack name = AddGroup (name ∷ []) (Nonnegatives 1)

-- the edits that give variables coefficients in a row, one after another
abbrev pub edits_in : List ℕ → List (List ℕ) → List Rational → List Edit
edits_in row [] qs = []
edits_in row (name ∷ names) [] = []
edits_in row (name ∷ names) (q ∷ qs) = Coef row name q ∷ edits_in row names qs

-- the slacks in each row, whose names come one row after another
abbrev pub edits_of_rows : List Row → List (List ℕ) → List Edit
edits_of_rows [] names = []
edits_of_rows (r ∷ rows) names =
    let size = length (row_signs r) in
    edits_in r.name (take size names) (row_signs r) ++ edits_of_rows rows (drop size names)

abbrev pub slack_term : List ℕ → NamedTerm
slack_term name = record { variable = name; coefficient = one_ℚ }

-- the least sum of variables as the objective
abbrev pub edit_of_sum : List (List ℕ) → Edit
edit_of_sum names = edit.Objective Min
    (named.Affine (record { terms = map slack_term names; constant = zero_ℚ }))

abbrev pub relaxed_edits : ModelValue → List Edit
relaxed_edits model =
    let names = slack_names model in
    map edit_of_slack names ++ (edits_of_rows model.rows names ++ edit_of_sum names ∷ [])
