use Rattle.std.proofs.Common.{◌∙◌, of_z, to_z, w64}
use Rattle.std.proofs.lemmas.Int.{to_z-of_z}
use mir.Syntax.{w128}
use Rattle.whole_rows.proofs.DivisionSteps.{signed_guess}
use Rattle.whole_rows.proofs.quotients.quotient_long.Goals as goal

pub returns-then-is_signed_product : goal.returns-then-is_signed_product
returns-then-is_signed_product c =
    signed_guess (to_z w64 (of_z w64 c.cast_signed-guess.result)) c.args.by c.args.a
    c.requires.positive
    (c.is_signed_product.ensures c.if-is_signed_product.true
    ∙ to_z-of_z w128 c.args.a c.ranges.a)
