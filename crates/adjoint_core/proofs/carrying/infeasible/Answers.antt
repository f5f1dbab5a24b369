use Rattle.std.specs.Prelude.{◌≡◌, List, All, map}
use Rattle.std.proofs.Common.{◌∙◌, inl, inr, rules, subst, subst₂}
use Rattle.ratio_core.specs.Rational.{Rational, neg_ℚ, zero_ℚ}
use Rattle.aff_core.specs.Address.{Address}
use Rattle.cert_core.specs.Folds.{AddUp, adjoint_parts}
use Rattle.certificates.specs.Duals.{dual_gap, rows_with}
use Rattle.dual_laws.specs.Held.{adjoint}
use Rattle.user_model.specs.declared.row.Row.{Row}
use Rattle.adjoint_core.specs.CarriedBack.{GapFits, InfeasibleBackFits, IsUnfitInfeasible, UnfitGap, cancelled, placed}
use Rattle.adjoint_core.specs.Read.{duals_by}
use Rattle.adjoint_core.specs.Told.{FirstNot}
use Rattle.adjoint_core.specs.Walk.{IsUnfitAmong, RowDualFits, row_dual}
use Rattle.adjoint_core.proofs.InOrder.{told_on}
use Rattle.adjoint_core.proofs.Moved.{RowsTold, move3}
use Rattle.adjoint_core.proofs.carrying.infeasible.Goals as goal

pub returns-in_err-vars : goal.returns-in_err-vars
returns-in_err-vars g c =
    let m = c.args.model.now.model in
    let states = map g.B.Bridge.state c.args.bridges.now in
    let leaf = duals_by c.args.places.now c.args.y.now in
    let duals = map (row_dual states leaf) m.rows in
    let Fit = All (RowDualFits states leaf) m.rows in
    let Unfit = IsUnfitAmong states leaf m.rows in
    let rows = subst (RowsTold states leaf c.in_ok-rows.rows.items) c.rows.ensures.value
    c.in_ok-rows.ensures in
    told_on c.from_residual-in_err-vars.result c.in_err-vars.field-0.0 _
    (InfeasibleBackFits m duals Fit Unfit) _ _ _ (IsUnfitInfeasible m duals Fit Unfit)
    c.from_residual-in_err-vars.ensures.1 c.in_err-vars.ensures
    (λ at h. inr (
      rows.0,
      inl
          (move3 (λ (us : List Address) (rs : List Row) (ys : List (List Rational)).
          FirstNot (λ v. AddUp zero_ℚ (adjoint_parts (rows_with ys rs) v)) (λ v. v) us at)
          h (search rules) c.rows-2.ensures.value (c.deref.ensures.value ∙ rows.1)),
    ))

pub returns-in_err-gap : goal.returns-in_err-gap
returns-in_err-gap g c =
    let m = c.args.model.now.model in
    let states = map g.B.Bridge.state c.args.bridges.now in
    let leaf = duals_by c.args.places.now c.args.y.now in
    let duals = map (row_dual states leaf) m.rows in
    let Fit = All (RowDualFits states leaf) m.rows in
    let Unfit = IsUnfitAmong states leaf m.rows in
    let rows = subst (RowsTold states leaf c.in_ok-rows.rows.items) c.rows.ensures.value
    c.in_ok-rows.ensures in
    let sums = move3 (λ (us : List Address) (rs : List Row) (ys : List (List Rational)).
    All (λ v. AddUp zero_ℚ (adjoint_parts (rows_with ys rs) v)) us
    × (c.in_ok-vars.vars.items ≡ map (λ v. neg_ℚ (adjoint (rows_with ys rs) v)) us))
    c.in_ok-vars.ensures (search rules) c.rows-2.ensures.value (c.deref.ensures.value ∙ rows.1) in
    let rows_is : c.deref-2.result.now ≡ duals = c.deref-2.ensures.value ∙ rows.1 in
    let vars_is : c.deref-3.result.now ≡ cancelled m duals = c.deref-3.ensures.value ∙ sums.1 in
    told_on c.from_residual-in_err-gap.result c.in_err-gap.field-0.0 _
    (InfeasibleBackFits m duals Fit Unfit) _ _ _ (IsUnfitInfeasible m duals Fit Unfit)
    c.from_residual-in_err-gap.ensures.1 c.in_err-gap.ensures
    (λ at h. inr (
      rows.0,
      inr (
        sums.0,
        subst₂ (λ (ys : List (List Rational)) (vs : List Rational). UnfitGap zero_ℚ
            (placed m ys vs) at)
            rows_is vars_is h,
      ),
    ))

pub returns : goal.returns
returns g c =
    let m = c.args.model.now.model in
    let states = map g.B.Bridge.state c.args.bridges.now in
    let leaf = duals_by c.args.places.now c.args.y.now in
    let duals = map (row_dual states leaf) m.rows in
    let Fit = All (RowDualFits states leaf) m.rows in
    let Unfit = IsUnfitAmong states leaf m.rows in
    let rows = subst (RowsTold states leaf c.in_ok-rows.rows.items) c.rows.ensures.value
    c.in_ok-rows.ensures in
    let sums = move3 (λ (us : List Address) (rs : List Row) (ys : List (List Rational)).
    All (λ v. AddUp zero_ℚ (adjoint_parts (rows_with ys rs) v)) us
    × (c.in_ok-vars.vars.items ≡ map (λ v. neg_ℚ (adjoint (rows_with ys rs) v)) us))
    c.in_ok-vars.ensures (search rules) c.rows-2.ensures.value (c.deref.ensures.value ∙ rows.1) in
    let rows_is : c.deref-2.result.now ≡ duals = c.deref-2.ensures.value ∙ rows.1 in
    let vars_is : c.deref-3.result.now ≡ cancelled m duals = c.deref-3.ensures.value ∙ sums.1 in
    let gap = subst₂ (λ (ys : List (List Rational)) (vs : List Rational).
    GapFits zero_ℚ (placed m ys vs) × (c.in_ok-gap.gap ≡ dual_gap m ys vs)) rows_is vars_is
    c.in_ok-gap.ensures in
    let gap_is : c.in_ok-gap.gap ≡ dual_gap m duals (cancelled m duals) = gap.1 in
    let duals_here : c.in_ok-rows.rows.items ≡ duals = rows.1 in
    let vars : c.in_ok-vars.vars.items ≡ cancelled m duals = sums.1 in
    ((rows.0, (sums.0, gap.0)), (cc (gap_is, duals_here, vars)))
