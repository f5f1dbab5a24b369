use Rattle.std.proofs.Common.{◌∙◌, FitsSigned, ap, int_lt, pos, rules, w64}
use Rattle.std.proofs.lemmas.Int.{to_z-of_z}
use Rattle.whole_rows.specs.RatioLaws.{is_below_over}
use Rattle.whole_rows.specs.Rows.{numerator_of}
use Rattle.whole_rows.proofs.ratio.is_negative_at.Goals as goal

pub returns : goal.returns
returns c =
    let row = c.args.row.now in
    let fits : FitsSigned w64 c.numerator.result = search rules in
    ap (λ z. int_lt z (pos 0)) (to_z-of_z w64 c.numerator.result fits ∙ c.numerator.ensures)
    ∙ is_below_over (numerator_of row c.args.j) row.den row.above
