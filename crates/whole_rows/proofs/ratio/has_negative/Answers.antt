use Rattle.std.proofs.Common.{◌∙◌, ap, int_lt, pos}
use Rattle.whole_rows.specs.RatioLaws.{is_below_over}
use Rattle.whole_rows.specs.Rows.{numerator_of}
use Rattle.whole_rows.proofs.DivisionSteps.{entry_is}
use Rattle.whole_rows.proofs.ratio.has_negative.Goals as goal

pub returns : goal.returns
returns c =
    ap (λ z. int_lt z (pos 0)) (entry_is c.args.row.now c.args.q c.index.result.now c.requires
    c.index.ensures) ∙ is_below_over (numerator_of c.args.row.now c.args.q) c.args.row.now.den
    c.args.row.now.above
