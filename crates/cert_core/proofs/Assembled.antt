-- From what the calls answer to what is said of the model.
use Rattle.std.specs.Prelude.{◌≡◌, ◌↔◌, Bool, IsTrue, List, length, All, map, Result}
use Rattle.std.proofs.Common.{sym, ◌∙◌, ap, subst, get_or}
use Rattle.std.proofs.lemmas.List.{length-map}
use Rattle.std.proofs.lemmas.List.Elements.{All-append, All-map, All-weaker}
use Rattle.ratio_core.specs.Rational.{Rational, one_ℚ, zero_ℚ}
use Rattle.ratio_core.specs.declared.fault.NumberFault.{NumberFault}
use Rattle.ratio_core.specs.Answers.{ExactWhere}
use Rattle.map_laws.specs.EachLaws.{all_first}
use Rattle.aff_core.specs.Address.{Address, address_cmp}
use Rattle.aff_core.specs.Function.{Function, evaluated, variable}
use Rattle.aff_core.specs.FunctionLists.{evaluations, slopes, values}
use Rattle.aff_core.specs.Points.{spread}
use Rattle.dual_laws.specs.Held.{DualRow, HasDuals}
use Rattle.linear_laws.specs.ListLaws.{evaluations_slopes, evaluations_values}
use Rattle.linear_laws.specs.PointLaws.{spread_at}
use Rattle.set_core.specs.declared.set.Set.{Set}
use Rattle.set_core.specs.Membership.{Dual, In, MembershipFits, recession}
use Rattle.set_laws.specs.Multiples.{multiplied_one, multiplied_zero}
use Rattle.user_model.specs.declared.group.Group.{Group}
use Rattle.user_model.specs.declared.objective.Objective.{Objective}
use Rattle.user_model.specs.declared.row.Row.{Row}
use Rattle.user_model.specs.Model.{ModelValue, variables}
use Rattle.certificates.specs.Points.{address_of, addresses_of, all_addresses, at_point, functions_of, functions_of_group, variables_of}
use Rattle.certificates.specs.Duals.{AreDuals, group_with, groups_with, rows_with, with_duals}
use Rattle.certificates.specs.DualPointLaws.{component_count}
use Rattle.certificates.specs.Feasible.{IsFeasible, IsRay}
use Rattle.cert_core.specs.Checked.{HasEachDual, HasRowDuals}
use Rattle.cert_core.specs.Folds.{EvaluationFits, FitIn, PointFits}
use Rattle.cert_core.specs.Holding.{FunctionsHold, HasGroupSet, HasRowSet, ModelHoldsAt, HasSets}
use Rattle.cert_core.specs.Variables.{Ascend}
use Rattle.numbered_list.specs.Numbered.{Rise}
use Rattle.user_model.specs.Consistent.{variable_number}
use Rattle.user_model.specs.Valid.{HasValidParts, IsValidGroup, IsValidRow}
use Rattle.cert_core.proofs.Places.{ascend, distinct}

-- ---- values and slopes

module _ (model : ModelValue) (x : List Rational) where
  abbrev own : Address → Rational
  own = at_point model x

  -- of each group's set and functions, and of each row's
  abbrev OfGroups : (Set → List Function → Type 0) → Type 0
  OfGroups Hold = All (λ g. Hold g.set (functions_of_group g)) model.groups

  abbrev OfRows : (Set → List Function → Type 0) → Type 0
  OfRows Hold = All (λ r. Hold r.set (functions_of r.func)) model.rows

  values_in : ◌≡◌ {A = Set → List Function → Type 0} (λ set fs. FunctionsHold one_ℚ set fs own)
      (λ set fs. In set (values fs own))
  values_in = λ i set fs. In (multiplied_one set i) (evaluations_values fs own i)

  slopes_in : ◌≡◌ {A = Set → List Function → Type 0} (λ set fs. FunctionsHold zero_ℚ set fs own)
      (λ set fs. In (recession set) (slopes fs own))
  slopes_in = λ i set fs. In (multiplied_zero set i) (evaluations_slopes fs own i)

  pub feasible : length x ≡ length (variables model) → ModelHoldsAt model one_ℚ x
      → IsFeasible model x
  feasible size h = record {
    size = size;
    groups = subst OfGroups values_in h.groups;
    rows = subst OfRows values_in h.rows;
  }

  pub from_feasible : IsFeasible model x → ModelHoldsAt model one_ℚ x
  from_feasible h = record {
    groups = subst OfGroups (sym values_in) h.groups;
    rows = subst OfRows (sym values_in) h.rows;
  }

  pub ray : length x ≡ length (variables model) → ModelHoldsAt model zero_ℚ x → IsRay model x
  ray size h = record {
    size = size;
    groups = subst OfGroups slopes_in h.groups;
    rows = subst OfRows slopes_in h.rows;
  }

  pub from_ray : IsRay model x → ModelHoldsAt model zero_ℚ x
  from_ray h = record {
    groups = subst OfGroups (sym slopes_in) h.groups;
    rows = subst OfRows (sym slopes_in) h.rows;
  }

-- ---- duals

module _ (model : ModelValue) (rows : List (List Rational)) (vars : List Rational) where
  abbrev InDual : DualRow → Type 0
  InDual h = Dual h.set h.duals

  pub are_duals : HasRowDuals model.rows rows → length vars ≡ length (variables model)
      → All InDual (with_duals model rows vars) → AreDuals model rows vars
  are_duals entries size h = record {
    each_row = entries.each;
    each_variable = size;
    duals = λ k d end. record { size = sizes k d end; dual = h k d end };
  }
    where
      group_sizes : (w : Address → Rational) (groups : List Group)
          → All HasEachDual (groups_with w groups)
      group_sizes w groups = All-map HasEachDual (group_with w) groups
          (λ k d end. length-map (addresses_of (get_or groups k d).vars) w
          ∙ sym (length-map (addresses_of (get_or groups k d).vars) (variable {R = address_cmp})))

      sizes : All HasEachDual (with_duals model rows vars)
      sizes = All-append HasEachDual (rows_with rows model.rows)
          (groups_with (at_point model vars) model.groups) entries.components
          (group_sizes (at_point model vars) model.groups)

  pub from_duals : AreDuals model rows vars → All InDual (with_duals model rows vars)
  from_duals h = All-weaker HasDuals InDual (λ _ k. k.dual) (with_duals model rows vars) h.duals

-- ---- at the variables of the model

module _ (groups : List Group) (us : List Address) (is : us ≡ all_addresses groups) where
  pub variable_count : length us ≡ length (variables_of groups)
  variable_count = ap length is ∙ length-map (variables_of groups) address_of

  module _ (x : List Rational) where
    pub numbers_at : Ascend us → length x ≡ length us → map (spread us x) us ≡ x
    numbers_at up size = spread_at us x (distinct us up) (sym size)

-- the model's own point has a vector's numbers at its variables
pub numbers_of_model : (groups : List Group) (rows : List Row) (us : List Address)
    (x : List Rational) → HasSets groups rows us → length x ≡ length us
    → map (spread (all_addresses groups) x) (all_addresses groups) ≡ x
numbers_of_model groups rows us x ready size =
    subst (λ vs. map (spread vs x) vs ≡ x) ready.variables
    (numbers_at groups us ready.variables x ready.ascend size)

pub size_of_model : (groups : List Group) (rows : List Row) (us : List Address) (x : List Rational)
    → HasSets groups rows us → length x ≡ length us → length x ≡ length (variables_of groups)
size_of_model groups rows us x ready size = size ∙ variable_count groups us ready.variables

-- ---- what is read of a model at its own point

module _ (groups : List Group) (us : List Address) (is : us ≡ all_addresses groups)
    (x : List Rational) (p : Address → Rational) (at : p ≡ spread us x) where
  pub own_point : p ≡ spread (all_addresses groups) x
  own_point = at ∙ ap (λ vs. spread vs x) is

  pub rows_told : (r : Result Bool NumberFault) (rows : List Row) (one : Rational)
      → ExactWhere r (All (λ r. FitIn one r.set (functions_of r.func) p) rows)
      (λ holds. IsTrue holds ↔ All (λ r. FunctionsHold one r.set (functions_of r.func) p) rows)
      → ExactWhere r (All (λ r. FitIn one r.set (functions_of r.func)
      (spread (all_addresses groups) x)) rows)
      (λ holds. IsTrue holds ↔ All (λ r. FunctionsHold one r.set (functions_of r.func)
      (spread (all_addresses groups) x)) rows)
  rows_told r rows one h =
      subst (λ q. ExactWhere r (All (λ r. FitIn one r.set (functions_of r.func) q) rows)
      (λ holds. IsTrue holds ↔ All (λ r. FunctionsHold one r.set (functions_of r.func) q) rows))
      own_point h

  pub objective_told : (r : Result Rational NumberFault) (f : Function) (one : Rational)
      → ExactWhere r (EvaluationFits one f p) (λ q. q ≡ evaluated one f p)
      → ExactWhere r (EvaluationFits one f (spread (all_addresses groups) x))
      (λ q. q ≡ evaluated one f (spread (all_addresses groups) x))
  objective_told r f one h =
      subst (λ y. ExactWhere r (EvaluationFits one f y) (λ q. q ≡ evaluated one f y)) own_point h

-- rows and groups together
pub point_told : (model : ModelValue) (one : Rational) (x : List Rational) (a b now : Bool)
    → All (λ r. FitIn one r.set (functions_of r.func) (at_point model x)) model.rows
    × (IsTrue a
    ↔ All (λ r. FunctionsHold one r.set (functions_of r.func) (at_point model x)) model.rows)
    → All (λ g. MembershipFits g.set (evaluations one (functions_of_group g) (at_point model x)))
    model.groups
    × (IsTrue b
    ↔ All (λ g. FunctionsHold one g.set (functions_of_group g) (at_point model x)) model.groups)
    → (IsTrue now ↔ (IsTrue a × IsTrue b))
    → PointFits model one x × (IsTrue now ↔ ModelHoldsAt model one x)
point_told model one x a b now rows groups both = (
  record { rows = rows.0; groups = groups.0 },
  (
    λ t. let k = both.0 t in
        record { rows = rows.1.0 k.0; groups = groups.1.0 k.1 },
    λ h. both.1 (rows.1.1 h.rows, groups.1.1 h.groups),
  ),
)

-- at the model's own addresses
pub at_own : (groups : List Group) (us : List Address) → us ≡ all_addresses groups
    → (r : Result Bool NumberFault) (F P : Address → Type 0)
    → ExactWhere r (All F us) (λ holds. IsTrue holds ↔ All P us)
    → ExactWhere r (All F (all_addresses groups))
    (λ holds. IsTrue holds ↔ All P (all_addresses groups))
at_own groups us is r F P h =
    subst (λ vs. ExactWhere r (All F vs) (λ holds. IsTrue holds ↔ All P vs)) is h

pub row_duals : (model : ModelValue) (rows : List (List Rational)) (vars : List Rational)
    → AreDuals model rows vars → HasRowDuals model.rows rows
row_duals model rows vars h = record {
  each = h.each_row;
  components = All-weaker HasDuals HasEachDual (λ _ k. k.size) (rows_with rows model.rows)
      (all_first HasDuals (rows_with rows model.rows)
      (groups_with (at_point model vars) model.groups) h.duals);
}

-- ---- of a valid model

pub ready : (groups : List Group) (rows : List Row) (objective : Objective) (us : List Address)
    → HasValidParts groups rows objective → Rise variable_number (variables_of groups)
    → us ≡ all_addresses groups → HasSets groups rows us
ready groups rows objective us valid rise is = record {
  variables = is;
  ascend = subst Ascend (sym is) (ascend (variables_of groups) rise);
  row_sets = All-weaker (IsValidRow groups) HasRowSet
      (λ r v. record { dimension = component_count r.func ∙ sym v.set.dimension }) rows
      valid.valid_rows;
  group_sets = All-weaker IsValidGroup HasGroupSet
      (λ g v. record { dimension = sym v.set.dimension }) groups valid.valid_groups;
}
