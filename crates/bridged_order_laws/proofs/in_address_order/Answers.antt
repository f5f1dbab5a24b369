use Rattle.bridged_order_laws.specs.TextLaws.{prints_in_order}
use Rattle.bridged_order_laws.proofs.in_address_order.Goals as goal

pub returns : goal.returns
returns g = prints_in_order
