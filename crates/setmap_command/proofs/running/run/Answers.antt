use Rattle.std.proofs.Common.{sym, ◌∙◌}
use Rattle.std.specs.Prelude as prelude
use Rattle.command_run.specs.RanLaws.{no_command, out_of_memory, ran}
use Rattle.command_run.specs.Run.{seen}
use Rattle.file_command.specs.Loading.{AnswersFile}
use Rattle.file_command.specs.RunLaws.{never_usage}
use Rattle.io_face.specs.Shelf.{AsksFor}
use Rattle.io_face.specs.Told.{told_by}
use Rattle.model_command.specs.Alone.{standard_by}
use Rattle.setmap_command.proofs.Fetched.{both_end_well}
use Rattle.setmap_command.proofs.running.run.Goals as goal
use Rattle.setmap_command.specs.Files.{AsksModelAndMaps, CanBothBeFetched, SaysOfMaps}
use Rattle.setmap_command.specs.declared.command.MappedCommand.{MappedCommand}

pub returns-in-Ok-Some-clause-runs : goal.returns-in-Ok-Some-clause-runs
returns-in-Ok-Some-clause-runs g c =
    let setting = standard_by (prelude.map g.B.Bridge.state c.args.bridges.items) in
    let told = told_by (g.H.Shelf.files c.args.shelf.now) (g.H.Shelf.sure c.args.shelf.now) in
    let old = seen (g.H.Shelf.asked c.args.shelf.now) (g.H.Shelf.faults c.args.shelf.now)
    (g.O.Sink.written c.args.output.now) (g.O.Sink.faults c.args.output.now) in
    let new = seen (g.H.Shelf.asked c.answer.new.shelf) (g.H.Shelf.faults c.answer.new.shelf)
    (g.O.Sink.written c.end_with.new.output) (g.O.Sink.faults c.end_with.new.output) in
    let command = c.in-Ok-Some.command in
    ran (λ (said : MappedCommand). AnswersFile (SaysOfMaps setting told said.maps) told said.model)
    (λ said before after. AsksModelAndMaps told said.model said.maps (AsksFor before after))
    (λ said. CanBothBeFetched told said.model said.maps) _ c.in-Ok-Some.command
    (sym c.in-Ok-Some.ensures.said ∙ c.in-Ok-Some.field-0-is) c.answer.result old new
    c.end_with.result
    (record {
      says = c.answer.ensures.answers;
      asks = c.answer.ensures.asks;
      cause = c.answer.ensures.cause;
      sound = c.answer.ensures.sound;
      ends = c.end_with.ensures.ends;
      write_fault = c.end_with.ensures.write_fault;
      sound_writes = c.end_with.ensures.sound;
    })
    (λ end old new ends read write can sound.
    both_end_well setting told command.model command.maps end old.written new.written old.reads
    new.reads old.writes new.writes ends read write can sound)

pub returns-in-Ok-Some-clause-untouched : goal.returns-in-Ok-Some-clause-untouched
returns-in-Ok-Some-clause-untouched g c = λ e.
    absurd (never_usage c.answer.result c.end_with.result _ _ c.end_with.ensures.ends e)

pub returns-in-Ok-None-clause-runs : goal.returns-in-Ok-None-clause-runs
returns-in-Ok-None-clause-runs g c =
    let setting = standard_by (prelude.map g.B.Bridge.state c.args.bridges.items) in
    let told = told_by (g.H.Shelf.files c.args.shelf.now) (g.H.Shelf.sure c.args.shelf.now) in
    let old = seen (g.H.Shelf.asked c.args.shelf.now) (g.H.Shelf.faults c.args.shelf.now)
    (g.O.Sink.written c.args.output.now) (g.O.Sink.faults c.args.output.now) in
    no_command (λ (said : MappedCommand). AnswersFile (SaysOfMaps setting told said.maps) told said.model)
    (λ said before after. AsksModelAndMaps told said.model said.maps (AsksFor before after))
    (λ said. CanBothBeFetched told said.model said.maps) _
    (sym c.in-Ok-None.ensures.said ∙ c.in-Ok-None.field-0-is) old

pub returns-in-Err-clause-runs : goal.returns-in-Err-clause-runs
returns-in-Err-clause-runs g c =
    let setting = standard_by (prelude.map g.B.Bridge.state c.args.bridges.items) in
    let told = told_by (g.H.Shelf.files c.args.shelf.now) (g.H.Shelf.sure c.args.shelf.now) in
    let old = seen (g.H.Shelf.asked c.args.shelf.now) (g.H.Shelf.faults c.args.shelf.now)
    (g.O.Sink.written c.args.output.now) (g.O.Sink.faults c.args.output.now) in
    out_of_memory (λ (said : MappedCommand). AnswersFile (SaysOfMaps setting told said.maps) told said.model)
    (λ said before after. AsksModelAndMaps told said.model said.maps (AsksFor before after))
    (λ said. CanBothBeFetched told said.model said.maps) _ c.in-Err.ensures.of_one old
