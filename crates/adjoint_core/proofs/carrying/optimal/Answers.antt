use Rattle.std.specs.Prelude.{◌≡◌, List, All, map}
use Rattle.std.proofs.Common.{◌∙◌, ap, inl, inr, subst}
use Rattle.ratio_core.specs.Rational.{Rational, one_ℚ, zero_ℚ}
use Rattle.aff_core.specs.Address.{Address}
use Rattle.aff_core.specs.Function.{coefficient}
use Rattle.cert_core.specs.Folds.{AddUp, CostFits, EvaluationFits, ObjectiveValueFits, adjoint_parts}
use Rattle.certificates.specs.Duals.{reduced_cost, rows_with}
use Rattle.certificates.specs.Points.{all_addresses, objective_function, objective_value, sense_of}
use Rattle.dual_laws.specs.Held.{adjoint}
use Rattle.user_model.specs.declared.objective.Objective.{Objective}
use Rattle.user_model.specs.declared.row.Row.{Row}
use Rattle.adjoint_core.specs.CarriedBack.{IsUnfitOptimal, OptimalBackFits, point, reduced, users}
use Rattle.adjoint_core.specs.Read.{duals_by, expression_at, numbers_by}
use Rattle.adjoint_core.specs.Told.{FirstNot}
use Rattle.adjoint_core.specs.Walk.{IsUnfitAmong, RowDualFits, row_dual}
use Rattle.adjoint_core.proofs.InOrder.{told_on}
use Rattle.adjoint_core.proofs.Moved.{RowsTold, ValuesTold, move4, point_is}
use Rattle.adjoint_core.proofs.carrying.optimal.Goals as goal

pub returns-in_err-x : goal.returns-in_err-x
returns-in_err-x g c =
    let m = c.args.model.now.model in
    let same : c.in_ok-users.users ≡ users m = c.in_ok-users.ensures
    ∙ ap all_addresses c.groups.ensures.value in
    let f = expression_at c.args.places.now.exprs in
    let x = numbers_by c.args.places.now c.args.x.now in
    let states = map g.B.Bridge.state c.args.bridges.now in
    let leaf = duals_by c.args.places.now c.args.y.now in
    let duals = map (row_dual states leaf) m.rows in
    let Fit = All (RowDualFits states leaf) m.rows in
    let Unfit = IsUnfitAmong states leaf m.rows in
    told_on c.from_residual-in_err-x.result c.in_err-x.field-0.0 _
    (OptimalBackFits m duals Fit Unfit f x) _ _ _ (IsUnfitOptimal m duals Fit Unfit f x)
    c.from_residual-in_err-x.ensures.1 c.in_err-x.ensures
    (λ at h. inl
    (subst (λ (us : List Address). FirstNot (λ v. EvaluationFits one_ℚ (f v) x) (λ v. v) us at)
    same h))

pub returns-in_err-vars : goal.returns-in_err-vars
returns-in_err-vars g c =
    let m = c.args.model.now.model in
    let same : c.in_ok-users.users ≡ users m = c.in_ok-users.ensures
    ∙ ap all_addresses c.groups.ensures.value in
    let f = expression_at c.args.places.now.exprs in
    let x = numbers_by c.args.places.now c.args.x.now in
    let states = map g.B.Bridge.state c.args.bridges.now in
    let leaf = duals_by c.args.places.now c.args.y.now in
    let duals = map (row_dual states leaf) m.rows in
    let Fit = All (RowDualFits states leaf) m.rows in
    let Unfit = IsUnfitAmong states leaf m.rows in
    let here = subst (λ (us : List Address). ValuesTold f c.in_ok-x.x.items us x) same
    c.in_ok-x.ensures in
    let rows = subst (RowsTold states leaf c.in_ok-rows.rows.items) c.rows.ensures.value
    c.in_ok-rows.ensures in
    told_on c.from_residual-in_err-vars.result c.in_err-vars.field-0.0 _
    (OptimalBackFits m duals Fit Unfit f x) _ _ _ (IsUnfitOptimal m duals Fit Unfit f x)
    c.from_residual-in_err-vars.ensures.1 c.in_err-vars.ensures
    (λ at h. inr (
      here.0,
      inr (
        rows.0,
        inl
            (move4
            (λ (us : List Address) (rs : List Row) (ys : List (List Rational)) (o : Objective).
            FirstNot (λ v. AddUp zero_ℚ (adjoint_parts (rows_with ys rs) v)
            × CostFits (sense_of o) (coefficient (objective_function o) v)
            (adjoint (rows_with ys rs) v))
            (λ v. v) us at) h same c.rows-2.ensures.value (c.deref.ensures.value ∙ rows.1)
            c.objective.ensures.value),
      ),
    ))

pub returns-in_err-value : goal.returns-in_err-value
returns-in_err-value g c =
    let m = c.args.model.now.model in
    let same : c.in_ok-users.users ≡ users m = c.in_ok-users.ensures
    ∙ ap all_addresses c.groups.ensures.value in
    let f = expression_at c.args.places.now.exprs in
    let x = numbers_by c.args.places.now c.args.x.now in
    let states = map g.B.Bridge.state c.args.bridges.now in
    let leaf = duals_by c.args.places.now c.args.y.now in
    let duals = map (row_dual states leaf) m.rows in
    let Fit = All (RowDualFits states leaf) m.rows in
    let Unfit = IsUnfitAmong states leaf m.rows in
    let here = subst (λ (us : List Address). ValuesTold f c.in_ok-x.x.items us x) same
    c.in_ok-x.ensures in
    let rows = subst (RowsTold states leaf c.in_ok-rows.rows.items) c.rows.ensures.value
    c.in_ok-rows.ensures in
    let costs = move4 (λ (us : List Address) (rs : List Row) (ys : List (List Rational))
    (o : Objective). All (λ v. AddUp zero_ℚ (adjoint_parts (rows_with ys rs) v)
    × CostFits (sense_of o) (coefficient (objective_function o) v) (adjoint (rows_with ys rs) v)) us
    × (c.in_ok-vars.vars.items ≡ map (λ v. reduced_cost (sense_of o)
    (coefficient (objective_function o) v) (adjoint (rows_with ys rs) v)) us)) c.in_ok-vars.ensures
    same c.rows-2.ensures.value (c.deref.ensures.value
    ∙ rows.1) c.objective.ensures.value in
    let point_here : c.in_ok-x.x.items ≡ point m f x = here.1 ∙ point_is m f x in
    told_on c.from_residual-in_err-value.result c.in_err-value.field-0.0 _
    (OptimalBackFits m duals Fit Unfit f x) _ _ _ (IsUnfitOptimal m duals Fit Unfit f x)
    c.from_residual-in_err-value.ensures.1 c.in_err-value.ensures
    (λ at h. inr (
      here.0,
      inr (
        rows.0,
        inr (
          costs.0,
          (
            subst (λ (xs : List Rational). ¬ (ObjectiveValueFits m one_ℚ xs))
                (c.deref-2.ensures.value ∙ point_here) h.0,
            h.1,
          ),
        ),
      ),
    ))

pub returns : goal.returns
returns g c =
    let m = c.args.model.now.model in
    let same : c.in_ok-users.users ≡ users m = c.in_ok-users.ensures
    ∙ ap all_addresses c.groups.ensures.value in
    let f = expression_at c.args.places.now.exprs in
    let x = numbers_by c.args.places.now c.args.x.now in
    let states = map g.B.Bridge.state c.args.bridges.now in
    let leaf = duals_by c.args.places.now c.args.y.now in
    let duals = map (row_dual states leaf) m.rows in
    let Fit = All (RowDualFits states leaf) m.rows in
    let Unfit = IsUnfitAmong states leaf m.rows in
    let here = subst (λ (us : List Address). ValuesTold f c.in_ok-x.x.items us x) same
    c.in_ok-x.ensures in
    let rows = subst (RowsTold states leaf c.in_ok-rows.rows.items) c.rows.ensures.value
    c.in_ok-rows.ensures in
    let costs = move4 (λ (us : List Address) (rs : List Row) (ys : List (List Rational))
    (o : Objective). All (λ v. AddUp zero_ℚ (adjoint_parts (rows_with ys rs) v)
    × CostFits (sense_of o) (coefficient (objective_function o) v) (adjoint (rows_with ys rs) v)) us
    × (c.in_ok-vars.vars.items ≡ map (λ v. reduced_cost (sense_of o)
    (coefficient (objective_function o) v) (adjoint (rows_with ys rs) v)) us)) c.in_ok-vars.ensures
    same c.rows-2.ensures.value (c.deref.ensures.value
    ∙ rows.1) c.objective.ensures.value in
    let point_here : c.in_ok-x.x.items ≡ point m f x = here.1 ∙ point_is m f x in
    let whole : c.deref-2.result.now ≡ point m f x = c.deref-2.ensures.value ∙ point_here in
    let value : c.in_ok-value.value ≡ objective_value m (point m f x) =
    c.in_ok-value.ensures.1 ∙ ap (objective_value m) whole in
    let duals_here : c.in_ok-rows.rows.items ≡ duals = rows.1 in
    let vars : c.in_ok-vars.vars.items ≡ reduced m duals = costs.1 in (
      (here.0, (rows.0, (costs.0, subst (ObjectiveValueFits m one_ℚ) whole c.in_ok-value.ensures.0))),
      (cc (value, point_here, duals_here, vars)),
    )
