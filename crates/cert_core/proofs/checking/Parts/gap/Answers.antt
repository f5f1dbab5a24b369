use Rattle.std.specs.Prelude.{◌++◌}
use Rattle.ratio_core.specs.Rational.{zero_ℚ}
use Rattle.ratio_core.specs.AnsweredLaws.{passed_on}
use Rattle.aff_core.specs.Points.{spread}
use Rattle.certificates.specs.Duals.{groups_with, rows_with}
use Rattle.cert_core.specs.Folds.{AddUp, gap_parts}
use Rattle.certificates.specs.Points.{all_addresses}
use Rattle.cert_core.proofs.Assembled.{numbers_of_model}
use Rattle.cert_core.proofs.Parts.{gap_of_first, gap_told}
use Rattle.cert_core.proofs.checking.Parts.gap.Goals as goal

pub returns-in_err-of_rows : goal.returns-in_err-of_rows
returns-in_err-of_rows c = λ next.
    let groups = c.args.self.now.groups.now.items in
    let w = spread (all_addresses groups) c.args.duals.now.vars.now in
    let front = rows_with c.args.duals.now.rows.now c.args.self.now.rows.now.items in
    let back = groups_with w groups in
    passed_on c.from_residual.result c.in_err-of_rows.field-0.0 (AddUp zero_ℚ (gap_parts front))
    (AddUp zero_ℚ (gap_parts (front ++ back))) _ _ c.from_residual.ensures.1
    c.in_err-of_rows.ensures (gap_of_first front back)

pub returns : goal.returns
returns c = λ next.
    let groups = c.args.self.now.groups.now.items in
    let w = spread (all_addresses groups) c.args.duals.now.vars.now in
    let w_is = numbers_of_model groups c.args.self.now.rows.now.items c.args.self.now.variables
    c.args.duals.now.vars.now c.requires.ready c.requires.vars in
    gap_told c.plus_groups.result
    (rows_with c.args.duals.now.rows.now c.args.self.now.rows.now.items) (groups_with w groups)
    c.in_ok-of_rows.of_rows c.in_ok-of_rows.ensures.0 c.in_ok-of_rows.ensures.1
    (c.plus_groups.ensures w w_is)
