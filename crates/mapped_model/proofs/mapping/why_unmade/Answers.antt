use Rattle.std.proofs.Common.{refl}
use Rattle.mapped_model.proofs.mapping.why_unmade.Goals as goal

pub take_back_all-requires : goal.take_back_all-requires
take_back_all-requires c = (c.args.model.now, c.in-Ok.ensures.made.back)

pub returns-in-Ok-clause-why : goal.returns-in-Ok-clause-why
returns-in-Ok-clause-why c = ((c.make_all.new.model.model, c.in-Ok.ensures.made.made), refl)

pub returns-in-Ok-clause-kept : goal.returns-in-Ok-clause-kept
returns-in-Ok-clause-kept c = c.take_back_all.ensures c.args.model.now c.in-Ok.ensures.made.back
