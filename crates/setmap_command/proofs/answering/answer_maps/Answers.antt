use Rattle.std.proofs.Common.{subst, sym, ◌∙◌}
use Rattle.std.specs.Prelude as prelude
use Rattle.model_command.specs.Alone.{standard_by}
use Rattle.setmap_command.proofs.Told.{never_failed, says_mapped, says_unmapped}
use Rattle.setmap_command.proofs.answering.answer_maps.Goals as goal
use Rattle.setmap_command.specs.Says.{StandsForMapped}

pub solved-requires-clause-stands : goal.solved-requires-clause-stands
solved-requires-clause-stands g c =
    subst (λ f. StandsForMapped f c.map_rows.new.model.model) (sym c.in-Ok.ensures.maps.1)
    (c.args.model.model, c.in-Ok.ensures.stands)

pub solved-requires-clause-settled : goal.solved-requires-clause-settled
solved-requires-clause-settled g c = c.in-Ok.ensures.maps.3 ∙ c.requires.settled

pub returns-in-Ok-clause-says : goal.returns-in-Ok-clause-says
returns-in-Ok-clause-says g c =
    says_mapped (standard_by (prelude.map g.B.Bridge.state c.args.bridges.items)) c.args.file
    c.args.model c.map_rows.new.model c.solved.result c.in-Ok.rows c.in-Ok.ensures.maps
    c.in-Ok.ensures.stands c.solved.ensures

pub returns-in-Err-clause-says : goal.returns-in-Err-clause-says
returns-in-Err-clause-says g c =
    says_unmapped (standard_by (prelude.map g.B.Bridge.state c.args.bridges.items)) c.args.file
    c.args.model c.map_rows.new.model c.tell_mapping.result c.in-Err.fault c.in-Err.ensures.maps
    c.tell_mapping.ensures.told c.tell_mapping.ensures.memory

pub returns-in-Ok-clause-no_fault : goal.returns-in-Ok-clause-no_fault
returns-in-Ok-clause-no_fault g c =
    never_failed (standard_by (prelude.map g.B.Bridge.state c.args.bridges.items)) c.args.file
    c.args.model.model c.solved.result (returns-in-Ok-clause-says g c)

pub returns-in-Err-clause-no_fault : goal.returns-in-Err-clause-no_fault
returns-in-Err-clause-no_fault g c =
    never_failed (standard_by (prelude.map g.B.Bridge.state c.args.bridges.items)) c.args.file
    c.args.model.model c.tell_mapping.result (returns-in-Err-clause-says g c)
