use Rattle.std.proofs.Common.{◌+◌, ◌∙◌, ap, sym}
use Rattle.ratio_core.specs.Text.{part_of}
use Rattle.ratio_core.proofs.Literals.{parts_at, parts_whole, rest_is}
use Rattle.ratio_core.proofs.text.read_fraction.Goals as goal

pub returns-in-Some : goal.returns-in-Some
returns-in-Some c =
    c.fraction_of.ensures ∙ parts_at c.args.is_negative c.args.digits.now c.in-Some.at _ _
    (sym c.slash_at.ensures ∙ c.in-Some.is) c.read_part.ensures.value
    (c.read_part-in-Some.ensures.value ∙ ap part_of (rest_is c.args.digits.now (c.in-Some.at + 1)))

pub returns-in-None : goal.returns-in-None
returns-in-None c =
    c.fraction_of-in-None.ensures ∙ parts_whole c.args.is_negative c.args.digits.now _
    (sym c.slash_at.ensures ∙ c.in-None.is) c.read_part-in-None.ensures.value
