use Rattle.mapped_model.specs.TakenLaws.{has_duals_for}
use Rattle.setmap_command.proofs.Told.{says_printed, says_unfit}
use Rattle.setmap_command.proofs.solving.told.Goals as goal

pub take_back-requires : goal.take_back-requires
take_back-requires c =
    has_duals_for c.requires.stands.0 c.args.rows.now c.args.model.now.model c.requires.stands.1
    c.args.certificate c.requires.good

pub returns-in-Ok : goal.returns-in-Ok
returns-in-Ok c = λ old stands.
    says_printed old c.args.rows.now c.args.model.now.model c.printed-text.result c.args.certificate
    c.in-Ok.certificate stands c.printed-text.ensures.valid c.requires.good c.in-Ok.ensures
    c.printed-text.ensures.text

pub returns-in-Err : goal.returns-in-Err
returns-in-Err c = λ old stands.
    says_unfit old c.args.rows.now c.args.model.now.model c.tell_mapping.result c.args.certificate
    c.in-Err.fault c.in-Err.ensures c.tell_mapping.ensures.told c.tell_mapping.ensures.memory
