use Rattle.bridged_report.proofs.Naming.{address_of_is}
use Rattle.bridged_report.proofs.functions.address_of.Goals as goal

pub returns : goal.returns
returns c =
    address_of_is c.args.places.now.vars.indices c.args.i c.var_at.result c.var_at.ensures.value
