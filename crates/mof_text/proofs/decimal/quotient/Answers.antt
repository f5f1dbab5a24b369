use Rattle.std.proofs.Common.{◌∙◌, of_z, to_z, to_z-of_z}
use Rattle.std.proofs.lemmas.Int.{to_z_pos}
use mir.Syntax.{w128}
use Rattle.mof_text.proofs.NumberLaws.{quotient_is}
use Rattle.mof_text.proofs.decimal.quotient.Goals as goal

pub returns : goal.returns
returns c =
    quotient_is c.args.is_negative c.args.num c.args.den (to_z w128 (of_z w128 c.signed.result))
    (to_z w128 c.args.den) c.new.result c.ok.result
    (to_z-of_z {w = w128} (record { sfits = c.signed.type_inv }) ∙ c.signed.ensures)
    (to_z_pos w128 c.args.den c.requires.den)
    c.requires.some c.ok.ensures.value c.new.ensures.exact
