use Rattle.std.proofs.Common.{sym}
use Rattle.std_form.specs.NameLaws.{address_in_is}
use Rattle.leaf_update.proofs.indexed.index_of.Goals as goal

pub returns-clause-read : goal.returns-clause-read
returns-clause-read c =
    address_in_is c.args.map.now.vars.indices c.in-Some.ensures.one_to_one c.args.at.now c.in-Some.i
    (sym c.in-Some.ensures.value)
