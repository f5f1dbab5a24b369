use Rattle.std.proofs.Common.{ap, pos, to_z-of_z, ◌∙◌}
use Rattle.std.specs.Prelude.{int_lt}
use mir.Syntax.{w128}
use Rattle.tableau_core.specs.SignLaws.{below_by_num}
use Rattle.tableau_core.proofs.sign.is_negative.Goals as goal

pub returns : goal.returns
returns c =
    ap (λ z. int_lt z (pos 0)) (to_z-of_z {w = w128}
    (record { sfits = c.num.type_inv }) ∙ c.num.ensures.value)
    ∙ below_by_num c.args.value.now
