-- What duals that meet the equations say at points of the model: the groups' part of the adjoint is
-- the variables' duals, and the pull is a sum over the variables.
use Rattle.std.specs.Prelude.{◌≡◌, List, [], ◌∷◌, ◌++◌, flat_map, length, All, refl}
use Rattle.std.proofs.Common.{sym, ◌∙◌, ap, ap₂, subst}
use Rattle.std.proofs.lemmas.List.{length-map, map-append}
use Rattle.std.proofs.lemmas.List.Elements.{All-append, All-cons, All-head, All-map, All-nil, All-tail, All-weaker}
use Rattle.ratio_core.specs.Rational.{Rational, one_ℚ, zero_ℚ, ◌*ℚ◌, ◌+ℚ◌}
use Rattle.rational_laws.specs.Field.{*ℚ-zero, +ℚ-*ℚ, one-*ℚ, zero-*ℚ}
use Rattle.rational_laws.specs.Sums.{sum_by_ℚ-append, sum_by_ℚ_same, sum_by_ℚ_zero}
use Rattle.aff_core.specs.Address.{Address, address_cmp}
use Rattle.aff_core.specs.Function.{Function, coefficient, slope, variable}
use Rattle.aff_core.specs.FunctionLists.{evaluations, values}
use Rattle.aff_core.specs.Points.{unit}
use Rattle.linear_laws.specs.ListLaws.{evaluations_values, weighed_variables}
use Rattle.linear_laws.specs.SlopeLaws.{mentioned, slope_over}
use Rattle.linear_laws.specs.SupportLaws.{count, support, support_supports, supports_first, supports_second}
use Rattle.set_core.specs.declared.set.Set.{Set}
use Rattle.set_core.specs.Membership.{In}
use Rattle.set_core.specs.Mirrored.{multiplied}
use Rattle.set_core.specs.Shapes.{IsSetOf}
use Rattle.set_laws.specs.Multiples.{multiplied_one}
use Rattle.dual_laws.specs.Held.{AllHold, DualsHold, DualRow, Holds, adjoint, pull}
use Rattle.dual_laws.specs.PullLaws.{adjoint-append, mentioned_in, pull_is, pull_over, variables_in}
use Rattle.user_model.specs.declared.function.UserFunc.{UserFunc}
use Rattle.user_model.specs.declared.function.UserFunc.TheVariants.{PlainVec}
use Rattle.user_model.specs.declared.group.Group.{Group}
use Rattle.user_model.specs.declared.group.GroupVar.{GroupVar}
use Rattle.user_model.specs.declared.row.Row.{Row}
use Rattle.user_model.specs.Functions.{components}
use Rattle.user_model.specs.Model.{ModelValue, variables}
use Rattle.user_model.specs.Valid.{IsValid, IsValidGroup, IsValidRow}
use Rattle.certificates.specs.Points.{address_of, addresses_of, at_point, functions_of, functions_of_group}
use Rattle.certificates.specs.Feasible.{IsFeasible}
use Rattle.certificates.specs.Duals.{AreDuals, adjoint_of_rows, group_with, groups_with, row_with, rows_with, with_duals}
use Rattle.certificates.specs.PointLaws.{each_once, spread_cases}

-- ---- the groups' part of the adjoint

groups_weighed : (w : Address → Rational) (groups : List Group) (v : Address)
    → adjoint (groups_with w groups) v
    ≡ count (addresses_of (flat_map (λ g. g.vars) groups)) v *ℚ w v
groups_weighed w [] v = sym (zero-*ℚ (w v))
groups_weighed w (g ∷ groups) v =
    ap₂ ◌+ℚ◌ (weighed_variables w (addresses_of g.vars) v) (groups_weighed w groups v)
    ∙ sym (+ℚ-*ℚ (count (addresses_of g.vars) v) (count (addresses_of others) v) (w v))
    ∙ ap (λ q. q *ℚ w v)
    (sym (sum_by_ℚ-append (λ u. unit u v) (addresses_of g.vars) (addresses_of others))
    ∙ ap (λ us. count us v) (sym (map-append address_of g.vars others)))
  where
    others : List GroupVar
    others = flat_map (λ h. h.vars) groups

-- ---- at points

module _ (model : ModelValue) (rows : List (List Rational)) (vars : List Rational) where
  adjoint_with_duals : (v : Address)
      → adjoint (with_duals model rows vars) v
      ≡ adjoint_of_rows model rows v
      +ℚ count (addresses_of (variables model)) v *ℚ at_point model vars v
  adjoint_with_duals v =
      adjoint-append (rows_with rows model.rows) (groups_with (at_point model vars) model.groups) v
      ∙ ap (λ q. adjoint_of_rows model rows v +ℚ q)
      (groups_weighed (at_point model vars) model.groups v)

  -- at a point of the model the adjoint weighs as the equations say, which speak of its variables
  -- alone
  pub weighs : IsValid model → (c : Address → Rational)
      → All (λ v. adjoint_of_rows model rows v +ℚ at_point model vars v ≡ c v)
      (addresses_of (variables model)) → (y : List Rational) (v : Address)
      → adjoint (with_duals model rows vars) v *ℚ at_point model y v ≡ c v *ℚ at_point model y v
  weighs valid c equations y v =
      spread_cases (adjoint (with_duals model rows vars) v *ℚ at_point model y v
      ≡ c v *ℚ at_point model y v)
      (λ u. (count (addresses_of (variables model)) u ≡ one_ℚ)
      × (adjoint_of_rows model rows u +ℚ at_point model vars u ≡ c u))
      (addresses_of (variables model)) y v (λ k d end.
      (each_once (variables model) valid.consistent.variables_rise k d end, equations k d end))
      here elsewhere
    where
      here : (count (addresses_of (variables model)) v ≡ one_ℚ)
          × (adjoint_of_rows model rows v +ℚ at_point model vars v ≡ c v)
          → adjoint (with_duals model rows vars) v *ℚ at_point model y v ≡ c v *ℚ at_point model y v
      here p =
          ap (λ q. q *ℚ at_point model y v)
          (adjoint_with_duals v
          ∙ ap (λ n. adjoint_of_rows model rows v +ℚ n *ℚ at_point model vars v) p.0
          ∙ ap (λ q. adjoint_of_rows model rows v +ℚ q) (one-*ℚ (at_point model vars v)) ∙ p.1)

      elsewhere : at_point model y v ≡ zero_ℚ
          → adjoint (with_duals model rows vars) v *ℚ at_point model y v ≡ c v *ℚ at_point model y v
      elsewhere z =
          ap (λ q. adjoint (with_duals model rows vars) v *ℚ q) z
          ∙ *ℚ-zero (adjoint (with_duals model rows vars) v)
          ∙ sym (ap (λ q. c v *ℚ q) z ∙ *ℚ-zero (c v))

-- ---- the pull at such a point

module _ (hs : List DualRow) (f : Function) where
  abbrev both : List Address
  both = support (mentioned_in hs ++ mentioned f)

  pub pull_at : (x : Address → Rational)
      → ((v : Address) → adjoint hs v *ℚ x v ≡ coefficient f v *ℚ x v) → pull hs x ≡ slope f x
  pull_at x h =
      pull_over both hs x (supports_first both (mentioned_in hs) (mentioned f)
      (support_supports (mentioned_in hs ++ mentioned f)))
      ∙ sum_by_ℚ_same (λ u. adjoint hs u *ℚ x u) (λ u. coefficient f u *ℚ x u) both h
      ∙ sym (slope_over both f x (supports_second both (mentioned_in hs) (mentioned f)
      (support_supports (mentioned_in hs ++ mentioned f))))

pub no_pull_at : (hs : List DualRow) (x : Address → Rational)
    → ((v : Address) → adjoint hs v *ℚ x v ≡ zero_ℚ *ℚ x v) → pull hs x ≡ zero_ℚ
no_pull_at hs x h =
    pull_is hs x
    ∙ sum_by_ℚ_same (λ u. adjoint hs u *ℚ x u) (λ _. zero_ℚ) (variables_in hs)
    (λ u. h u ∙ zero-*ℚ (x u))
    ∙ sum_by_ℚ_zero (variables_in hs)

-- ---- duals of a valid model hold

abbrev HasSet : DualRow → Type 0
HasSet h = IsSetOf (length h.functions) h.set

pub component_count : (func : UserFunc) → length (functions_of func) ≡ components func
component_count (PlainVec vars) = length-map vars (variable {R = address_cmp})
component_count _ = refl

row_sets : (groups : List Group) (ys : List (List Rational)) (rows : List Row)
    → All (IsValidRow groups) rows → All HasSet (rows_with ys rows)
row_sets groups [] rows valid = All-nil HasSet
row_sets groups (y ∷ ys) [] valid = All-nil HasSet
row_sets groups (y ∷ ys) (r ∷ rows) valid =
    All-cons HasSet (row_with y r) (rows_with ys rows)
    (subst (λ n. IsSetOf n r.set) (sym (component_count r.func))
    ((All-head (IsValidRow groups) r rows valid).set))
    (row_sets groups ys rows (All-tail (IsValidRow groups) r rows valid))

group_set : (w : Address → Rational) (g : Group) → IsValidGroup g → HasSet (group_with w g)
group_set w g valid =
    subst (λ n. IsSetOf n g.set) (sym (length-map (addresses_of g.vars) (variable {R = address_cmp})
    ∙ length-map g.vars address_of)) valid.set

pub duals_hold : (model : ModelValue) (rows : List (List Rational)) (vars : List Rational)
    → IsValid model → AreDuals model rows vars → DualsHold (with_duals model rows vars)
duals_hold model rows vars valid duals = λ k d end. record {
  set = sets k d end;
  size = (duals.duals k d end).size;
  dual = (duals.duals k d end).dual;
}
  where
    sets : All HasSet (with_duals model rows vars)
    sets =
        All-append HasSet (rows_with rows model.rows)
        (groups_with (at_point model vars) model.groups)
        (row_sets model.groups rows model.rows valid.parts.valid_rows)
        (All-map HasSet (group_with (at_point model vars)) model.groups
        (All-weaker IsValidGroup (λ g. HasSet (group_with (at_point model vars) g))
        (group_set (at_point model vars)) model.groups valid.parts.valid_groups))

-- ---- feasible points are in the sets

value_holds : (set : Set) (fs : List Function) (x : Address → Rational) → In set (values fs x)
    → In (multiplied one_ℚ set) (evaluations one_ℚ fs x)
value_holds set fs x h =
    subst (λ v. In (multiplied one_ℚ set) v) (sym (evaluations_values fs x))
    (subst (λ s. In s (values fs x)) (sym (multiplied_one set)) h)

abbrev RowIn : (Address → Rational) → Row → Type 0
RowIn x r = In r.set (values (functions_of r.func) x)

rows_hold : (x : Address → Rational) (ys : List (List Rational)) (rows : List Row)
    → All (RowIn x) rows → AllHold one_ℚ (rows_with ys rows) x
rows_hold x [] rows h = All-nil (λ h. Holds one_ℚ h x)
rows_hold x (y ∷ ys) [] h = All-nil (λ h. Holds one_ℚ h x)
rows_hold x (y ∷ ys) (r ∷ rows) h =
    All-cons (λ h. Holds one_ℚ h x) (row_with y r) (rows_with ys rows)
    (value_holds r.set (functions_of r.func) x (All-head (RowIn x) r rows h))
    (rows_hold x ys rows (All-tail (RowIn x) r rows h))

abbrev GroupIn : (Address → Rational) → Group → Type 0
GroupIn x g = In g.set (values (functions_of_group g) x)

pub all_hold : (model : ModelValue) (rows : List (List Rational)) (vars y : List Rational)
    → IsFeasible model y → AllHold one_ℚ (with_duals model rows vars) (at_point model y)
all_hold model rows vars y feasible =
    All-append (λ h. Holds one_ℚ h (at_point model y)) (rows_with rows model.rows)
    (groups_with (at_point model vars) model.groups)
    (rows_hold (at_point model y) rows model.rows feasible.rows)
    (All-map (λ h. Holds one_ℚ h (at_point model y)) (group_with (at_point model vars)) model.groups
    (All-weaker (GroupIn (at_point model y)) (λ g. Holds one_ℚ (group_with (at_point model vars) g)
    (at_point model y)) (λ g. value_holds g.set (functions_of_group g) (at_point model y))
    model.groups feasible.groups))
