use Rattle.mapped_model.proofs.Making.{exceeded, made, made_stands, unmade}
use Rattle.mapped_model.proofs.mapping.made.Goals as goal

pub of_file-requires-clause-maps : goal.of_file-requires-clause-maps
of_file-requires-clause-maps c = c.requires.planned.maps

pub returns-in-Some-clause-maps : goal.returns-in-Some-clause-maps
returns-in-Some-clause-maps c =
    exceeded c.args.model.now c.args.file c.args.plan c.requires.planned c.in-Some.row
    c.why_unmade.result c.why_unmade.new.model c.why_unmade.ensures.why c.in-Some.is

pub returns-in-Ok-clause-maps : goal.returns-in-Ok-clause-maps
returns-in-Ok-clause-maps c =
    made c.args.model.now c.args.file c.args.plan c.requires.planned c.of_file.result
    c.make.new.model c.in-Ok.ensures.made c.in-None.is c.of_file.ensures

pub returns-in-Ok-clause-stands : goal.returns-in-Ok-clause-stands
returns-in-Ok-clause-stands c =
    made_stands c.args.model.now c.args.file c.args.plan c.requires.planned c.make.new.model
    c.requires.shaped c.in-Ok.ensures.made c.in-None.is

pub returns-in-Err-clause-maps : goal.returns-in-Err-clause-maps
returns-in-Err-clause-maps c =
    unmade c.args.model.now c.args.file c.args.plan c.requires.planned c.in-Err.fault
    c.make.new.model c.make.new.model c.in-Err.ensures.made
