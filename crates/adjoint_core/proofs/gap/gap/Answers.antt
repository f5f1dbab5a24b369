use Rattle.std.specs.Prelude.{◌≡◌, map}
use Rattle.std.specs.List.{zip}
use Rattle.std.proofs.Common.{subst}
use Rattle.ratio_core.specs.Folds.{sum_from}
use Rattle.ratio_core.specs.Rational.{zero_ℚ}
use Rattle.certificates.specs.Duals.{dual_gap, rows_with}
use Rattle.cert_core.specs.Folds.{gap_parts}
use Rattle.adjoint_core.specs.CarriedBack.{GapFits, UnfitGap, placed, placed_groups, placed_rows}
use Rattle.adjoint_core.specs.Walk.{row_place}
use Rattle.adjoint_core.proofs.GapSteps.{unfit_first}
use Rattle.adjoint_core.proofs.InOrder.{told_on}
use Rattle.adjoint_core.proofs.ModelGap.{gap_at}
use Rattle.adjoint_core.proofs.gap.gap.Goals as goal

pub returns-in_err-of_rows : goal.returns-in_err-of_rows
returns-in_err-of_rows c =
    let m = c.args.model.now.model in
    let rows = c.args.rows.now in
    let vars = c.args.vars.now in
    told_on c.from_residual.result c.in_err-of_rows.field-0.0
    (GapFits zero_ℚ (zip (map row_place c.rows.result.now.items) (rows_with rows c.rows.result.now.items)))
    (GapFits zero_ℚ (placed m rows vars)) (λ q. q ≡ dual_gap m rows vars)
    (λ q. q ≡ sum_from zero_ℚ (gap_parts (rows_with rows c.rows.result.now.items)))
    (UnfitGap zero_ℚ (zip (map row_place c.rows.result.now.items) (rows_with rows c.rows.result.now.items)))
    (UnfitGap zero_ℚ (placed m rows vars))
    c.from_residual.ensures.1 c.in_err-of_rows.ensures
    (λ at k. unfit_first zero_ℚ (placed_rows m rows) (placed_groups m vars) at
    (subst (λ rs. UnfitGap zero_ℚ (zip (map row_place rs) (rows_with rows rs)) at)
    c.rows.ensures.value k))

pub returns : goal.returns
returns c =
    let m = c.args.model.now.model in
    gap_at m c.args.rows.now c.args.vars.now c.requires.entries c.requires.size c.rows.ensures.valid
    c.rows.result.now.items c.groups.result.now.items c.rows.ensures.value c.groups.ensures.value
    c.in_ok-of_rows.of_rows c.in_ok-of_rows.ensures.0 c.in_ok-of_rows.ensures.1
    c.plus_each_group.result c.plus_each_group.ensures
