-- Points and duals of a model say the same of another model with the same groups, whose rows differ
-- in their numbers alone.
use Rattle.std.proofs.Common.{◌≡◌, ℕ, List, [], ◌∷◌, ◌++◌, length, map, ap, refl, subst, sym, ◌∙◌}
use Rattle.std.specs.Prelude.{All}
use Rattle.std.proofs.lemmas.List.{length-map}
use Rattle.std.proofs.lemmas.List.Elements.{All-map}
use Rattle.map_laws.specs.EachLaws.{all_from_map}
use Rattle.ratio_core.specs.Rational.{Rational, zero_ℚ, ◌+ℚ◌, ◌‹ℚ◌}
use Rattle.aff_core.specs.FunctionLists.{values}
use Rattle.aff_core.specs.Points.{spread}
use Rattle.certificates.specs.Duals.{groups_with, rows_with}
use Rattle.certificates.specs.Feasible.{IsFeasible}
use Rattle.certificates.specs.Good.{IsInfeasible}
use Rattle.certificates.specs.Points.{all_addresses, functions_of, functions_of_group, variables_of}
use Rattle.dual_laws.specs.Held.{DualRow, HasDuals, adjoint}
use Rattle.dual_laws.specs.Held as held
use Rattle.set_core.specs.Membership.{In}
use Rattle.user_model.specs.Model.{ModelValue}
use Rattle.user_model.specs.declared.group.Group.{Group}
use Rattle.user_model.specs.declared.row.Row.{Row}

-- all of a row but its number
abbrev pub plain : Row → Row
plain r = record r { id = 0 }

-- the rows are the same but for their numbers
pub record AreSame (rows others : List Row) : Type 0 where
  pub same : map plain rows ≡ map plain others

pub same_length : (rows others : List Row) → AreSame rows others → length rows ≡ length others
same_length rows others e =
    sym (length-map rows plain) ∙ ap length e.same ∙ length-map others plain

-- ---- points

-- the row's values are in its set
abbrev pub RowMeets : List Group → List Rational → Row → Type 0
RowMeets groups x r = In r.set (values (functions_of r.func) (spread (all_addresses groups) x))

pub all_same : (groups : List Group) (x : List Rational) (rows others : List Row)
    → AreSame rows others → All (RowMeets groups x) rows → All (RowMeets groups x) others
all_same groups x rows others e h =
    all_from_map (RowMeets groups x) plain others
    (subst (All (RowMeets groups x)) e.same (All-map (RowMeets groups x) plain rows h))

-- the group's values are in its set
abbrev GroupMeets : List Group → List Rational → Group → Type 0
GroupMeets groups x g =
    In g.set (values (functions_of_group g) (spread (all_addresses groups) x))

-- a feasible point of a model is one of another with the same groups whose rows it meets
pub feasible_with : (model other : ModelValue) (x : List Rational) → other.groups ≡ model.groups
    → IsFeasible model x → All (RowMeets model.groups x) other.rows → IsFeasible other x
feasible_with model other x same f rows = record {
  size = subst (λ gs. length x ≡ length (variables_of gs)) (sym same) f.size;
  groups = subst (λ gs. All (GroupMeets gs x) gs) (sym same) f.groups;
  rows = subst (λ gs. All (RowMeets gs x) other.rows) (sym same) rows;
}

-- ---- duals

-- what is asked of duals: by the groups, by the rows with their duals, and by how many rows there
-- are
pub record InfeasibleBy (gap : Rational) (rows : List (List Rational)) (vars : List Rational)
    (groups : List Group) (hs : List DualRow) (count : ℕ) : Type 0 where
  pub each_row : length rows ≡ count
  pub each_variable : length vars ≡ length (variables_of groups)
  pub duals : All HasDuals (hs ++ groups_with (spread (all_addresses groups) vars) groups)
  pub equations :
      All (λ v. adjoint hs v +ℚ spread (all_addresses groups) vars v ≡ zero_ℚ)
      (all_addresses groups)
  pub is_gap : gap ≡ held.gap (hs ++ groups_with (spread (all_addresses groups) vars) groups)
  pub positive : zero_ℚ ‹ℚ gap

module _ (model : ModelValue) (gap : Rational) (rows : List (List Rational))
    (vars : List Rational) where
  pub parts_of : IsInfeasible model gap rows vars
      → InfeasibleBy gap rows vars model.groups (rows_with rows model.rows) (length model.rows)
  parts_of h = record {
    each_row = h.duals.each_row;
    each_variable = h.duals.each_variable;
    duals = h.duals.duals;
    equations = h.equations;
    is_gap = h.is_gap;
    positive = h.positive;
  }

  pub infeasible_of : InfeasibleBy gap rows vars model.groups (rows_with rows model.rows)
      (length model.rows)
      → IsInfeasible model gap rows vars
  infeasible_of p = record {
    duals = record { each_row = p.each_row; each_variable = p.each_variable; duals = p.duals };
    equations = p.equations;
    is_gap = p.is_gap;
    positive = p.positive;
  }

-- a row's number isn't asked for
rows_plain : (ys : List (List Rational)) (rows : List Row)
    → rows_with ys (map plain rows) ≡ rows_with ys rows
rows_plain [] rows = refl
rows_plain (y ∷ ys) [] = refl
rows_plain (y ∷ ys) (r ∷ rows) =
    ap (λ hs. record { duals = y; functions = functions_of r.func; set = r.set } ∷ hs)
    (rows_plain ys rows)

pub infeasible_with : (model other : ModelValue) (gap : Rational) (ys : List (List Rational))
    (vars : List Rational) → other.groups ≡ model.groups → AreSame model.rows other.rows
    → IsInfeasible model gap ys vars → IsInfeasible other gap ys vars
infeasible_with model other gap ys vars groups e h =
    infeasible_of other gap ys vars
    (subst (λ gs. InfeasibleBy gap ys vars gs (rows_with ys other.rows) (length other.rows))
    (sym groups)
    (subst (λ hs. InfeasibleBy gap ys vars model.groups hs (length other.rows))
    (sym (rows_plain ys model.rows) ∙ ap (rows_with ys) e.same ∙ rows_plain ys other.rows)
    (subst (λ n. InfeasibleBy gap ys vars model.groups (rows_with ys model.rows) n)
    (same_length model.rows other.rows e) (parts_of model gap ys vars h))))
