use Rattle.std.proofs.Common.{ap, pos, to_z-of_z, ◌∙◌}
use Rattle.std.specs.Prelude.{int_lt}
use mir.Syntax.{w128}
use Rattle.tableau_core.specs.SignLaws.{above_by_num}
use Rattle.tableau_core.proofs.sign.is_positive.Goals as goal

pub returns : goal.returns
returns c =
    ap (int_lt (pos 0)) (to_z-of_z {w = w128}
    (record { sfits = c.num.type_inv }) ∙ c.num.ensures.value)
    ∙ above_by_num c.args.value.now
