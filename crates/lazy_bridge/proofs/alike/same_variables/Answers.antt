use Rattle.std.proofs.Common.{◌≡◌, sym, subst}
use Rattle.std.specs.Bool.{Decides}
use Rattle.std.specs.Cmp.Lexicographic.{pointwise_decides}
use Rattle.aff_core.specs.Address.{address_eq-Decides}
use Rattle.lazy_bridge.proofs.alike.same_variables.Goals as goal

pub returns : goal.returns
returns c =
    (subst (λ b. Decides b (c.args.one.now ≡ c.args.other.now)) (sym c.eq.ensures)
    (pointwise_decides address_eq-Decides c.args.one.now c.args.other.now)).0
