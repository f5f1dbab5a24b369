use Rattle.std.proofs.Common.{ℕ, List, sym, ◌∙◌}
use Rattle.std.specs.Prelude as prelude
use Rattle.command_run.specs.RanLaws.{no_file, no_memory, ran_on_file}
use Rattle.command_run.specs.Run.{seen}
use Rattle.relax_command.proofs.running.run.Goals as goal
use Rattle.relax_command.specs.Says.{SaysOfRelaxation}
use Rattle.relax_command.specs.SaysLaws.{says_plain}
use Rattle.file_command.specs.RunLaws.{never_usage}
use Rattle.io_face.specs.Told.{told_by}
use Rattle.model_command.specs.Alone.{standard_by}

pub returns-in-Ok-Some-clause-runs : goal.returns-in-Ok-Some-clause-runs
returns-in-Ok-Some-clause-runs g c =
    let setting = standard_by (prelude.map g.B.Bridge.state c.args.bridges.items) in
    let told = told_by (g.H.Shelf.files c.args.shelf.now) (g.H.Shelf.sure c.args.shelf.now) in
    let old = seen (g.H.Shelf.asked c.args.shelf.now) (g.H.Shelf.faults c.args.shelf.now)
    (g.O.Sink.written c.args.output.now) (g.O.Sink.faults c.args.output.now) in
    let new = seen (g.H.Shelf.asked c.answer.new.shelf) (g.H.Shelf.faults c.answer.new.shelf)
    (g.O.Sink.written c.end_with.new.output) (g.O.Sink.faults c.end_with.new.output) in
    ran_on_file (λ (name : List ℕ). name) (λ _. SaysOfRelaxation setting) told _ c.in-Ok-Some.name
    (sym c.in-Ok-Some.ensures.said ∙ c.in-Ok-Some.field-0-is) c.answer.result old new
    c.end_with.result
    (record {
      says = c.answer.ensures.answers;
      asks = c.answer.ensures.asks;
      cause = c.answer.ensures.cause;
      sound = c.answer.ensures.sound;
      ends = c.end_with.ensures.ends;
      write_fault = c.end_with.ensures.write_fault;
      sound_writes = c.end_with.ensures.sound;
    })
    (says_plain setting)

pub returns-in-Ok-Some-clause-untouched : goal.returns-in-Ok-Some-clause-untouched
returns-in-Ok-Some-clause-untouched g c = λ e.
    absurd (never_usage c.answer.result c.end_with.result _ _ c.end_with.ensures.ends e)

pub returns-in-Ok-None-clause-runs : goal.returns-in-Ok-None-clause-runs
returns-in-Ok-None-clause-runs g c =
    let setting = standard_by (prelude.map g.B.Bridge.state c.args.bridges.items) in
    let told = told_by (g.H.Shelf.files c.args.shelf.now) (g.H.Shelf.sure c.args.shelf.now) in
    let old = seen (g.H.Shelf.asked c.args.shelf.now) (g.H.Shelf.faults c.args.shelf.now)
    (g.O.Sink.written c.args.output.now) (g.O.Sink.faults c.args.output.now) in
    no_file (λ (name : List ℕ). name) (λ _. SaysOfRelaxation setting) told _
    (sym c.in-Ok-None.ensures.said ∙ c.in-Ok-None.field-0-is) old

pub returns-in-Err-clause-runs : goal.returns-in-Err-clause-runs
returns-in-Err-clause-runs g c =
    let setting = standard_by (prelude.map g.B.Bridge.state c.args.bridges.items) in
    let told = told_by (g.H.Shelf.files c.args.shelf.now) (g.H.Shelf.sure c.args.shelf.now) in
    let old = seen (g.H.Shelf.asked c.args.shelf.now) (g.H.Shelf.faults c.args.shelf.now)
    (g.O.Sink.written c.args.output.now) (g.O.Sink.faults c.args.output.now) in
    no_memory (λ (name : List ℕ). name) (λ _. SaysOfRelaxation setting) told _ c.in-Err.ensures.of_one old
