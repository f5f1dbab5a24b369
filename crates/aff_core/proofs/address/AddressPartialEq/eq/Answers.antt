use Rattle.std.proofs.Common.{◌≡◌, sym, ap, subst, ◌∙◌}
use Rattle.std.specs.Bool.{Decides}
use Rattle.std.specs.Ordering.{is_eq}
use Rattle.aff_core.specs.Address.{address_eq-Decides}
use Rattle.aff_core.proofs.address.AddressPartialEq.eq.Goals as goal

pub returns-clause-same : goal.returns-clause-same
returns-clause-same c =
    subst (λ b. Decides b (c.args.self.now ≡ c.args.other.now))
    (sym (c.is_eq.ensures ∙ ap is_eq c.cmp.ensures))
    (address_eq-Decides c.args.self.now c.args.other.now)
