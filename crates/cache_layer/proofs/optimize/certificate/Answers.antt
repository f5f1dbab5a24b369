use Rattle.std.specs.Prelude.{Err, Ok}
use Rattle.std_form.specs.Answers.{answer_of}
use Rattle.cache_layer.proofs.Carrying.{can_here, can_tell, carried_here, good_here}
use Rattle.cache_layer.proofs.Optimized.{certificate_told, fault_told}
use Rattle.cache_layer.proofs.optimize.certificate.Goals as goal

pub carry_back-requires : goal.carry_back-requires
carry_back-requires g c =
    can_here c.args.lazy.now c.args.model.now.model _ c.map.result.now c.args.answer.now
    c.bridges.ensures c.map.ensures.map c.table-sound.ensures.sound c.table-sound.ensures.native
    c.requires.stands c.requires.right

pub returns-in-Ok-clause-told : goal.returns-in-Ok-clause-told
returns-in-Ok-clause-told g c = λ stands.
    certificate_told stands.bridging (answer_of c.args.lazy.now.map c.args.answer.now)
    c.in-Ok.certificate
    (carried_here c.args.lazy.now c.args.model.now.model _ c.map.result.now c.args.answer.now
    c.bridges.ensures c.map.ensures.map c.table-sound.ensures.sound c.table-sound.ensures.native
    stands c.requires.right (Ok c.in-Ok.certificate) c.in-Ok.ensures.carried)

pub returns-in-Ok-clause-good : goal.returns-in-Ok-clause-good
returns-in-Ok-clause-good g c =
    good_here c.args.lazy.now c.args.model.now.model _ c.map.result.now c.args.answer.now
    c.bridges.ensures c.map.ensures.map c.table-sound.ensures.sound c.table-sound.ensures.native
    c.requires.stands c.requires.right (Ok c.in-Ok.certificate) c.in-Ok.ensures.right

pub in_names-requires : goal.in_names-requires
in_names-requires g c =
    can_tell c.args.model.now.model c.requires.stands.valid c.requires.stands.bridging
    (answer_of c.args.lazy.now.map c.args.answer.now) c.in-Err.fault
    (carried_here c.args.lazy.now c.args.model.now.model _ c.map.result.now c.args.answer.now
    c.bridges.ensures c.map.ensures.map c.table-sound.ensures.sound c.table-sound.ensures.native
    c.requires.stands c.requires.right (Err c.in-Err.fault) c.in-Err.ensures.carried)

pub returns-in-Err-clause-told : goal.returns-in-Err-clause-told
returns-in-Err-clause-told g c = λ stands.
    fault_told stands.bridging (answer_of c.args.lazy.now.map c.args.answer.now) c.in-Err.fault
    c.in_names.result
    (carried_here c.args.lazy.now c.args.model.now.model _ c.map.result.now c.args.answer.now
    c.bridges.ensures c.map.ensures.map c.table-sound.ensures.sound c.table-sound.ensures.native
    stands c.requires.right (Err c.in-Err.fault) c.in-Err.ensures.carried)
    c.in_names.ensures
