-- Each command ran as its function says.
use Rattle.std.proofs.Common.{◌≡◌, Some, ap, false, refl, sym}
use Rattle.command_words.specs.declared.words.Invocation.TheVariants.{Generate}
use Rattle.edit_engine.specs.Held.{machine_of}
use Rattle.edit_engine.specs.Lines.{says_load}
use Rattle.io_face.specs.Sink.{Adds, AddsPrefix}
use Rattle.io_face.specs.Told.{told_by}
use Rattle.moi_run.specs.RunState.{run_state_of}
use Rattle.moi_run.specs.Generated.{BeginsSummary, EndsWithSummary}
use Rattle.moi_run.proofs.Summaries.{generated_stops, of_command, summary_begins, summary_ends}
use Rattle.moi_run.proofs.PlanLine.{one_line, plan_loads_nothing}
use Rattle.moi_run.proofs.Checking.{runs_check}
use Rattle.moi_run.proofs.Running.{command_runs, plan_fetches_nothing, runs_generated, runs_plan, runs_solve}
use Rattle.moi_run.proofs.commands.obey.Goals as goal

pub returns-in-Run-clause-runs : goal.returns-in-Run-clause-runs
returns-in-Run-clause-runs g c = command_runs (sym c.in-Run.is) c.answer_script.ensures.runs

pub returns-in-Plan-clause-runs : goal.returns-in-Plan-clause-runs
returns-in-Plan-clause-runs g c =
    let told = told_by (g.H.Shelf.files c.args.shelf.now) (g.H.Shelf.sure c.args.shelf.now) in
    let stops = plan_fetches_nothing c.answer_with.result _ _ _
    c.answer_with.ensures.runs.outcome in
    command_runs (sym c.in-Plan.is)
    (runs_plan c.in-Plan.setup c.answer_with.result (g.I.Source.left c.args.input.now)
    (g.I.Source.left c.args.input.now) told _ _
    (run_state_of c.args.session.now told (g.H.Shelf.asked c.args.shelf.now)) (run_state_of c.answer_with.new.session told (g.H.Shelf.asked c.answer_with.new.shelf)) _ _
    c.answer_with.ensures.runs stops.0 stops.1)

pub returns-in-Plan-clause-unasked : goal.returns-in-Plan-clause-unasked
returns-in-Plan-clause-unasked g c _ =
    let stops = plan_fetches_nothing c.answer_with.result _ _ _
    c.answer_with.ensures.runs.outcome in (
      c.answer_with.ensures.unasked (one_line (λ line. says_load line.now ≡ false) _
          plan_loads_nothing),
      stops.0,
      stops.1,
    )

pub returns-in-Solve-clause-runs : goal.returns-in-Solve-clause-runs
returns-in-Solve-clause-runs g c =
    let told = told_by (g.H.Shelf.files c.args.shelf.now) (g.H.Shelf.sure c.args.shelf.now) in
    command_runs (sym c.in-Solve.is)
    (runs_solve c.in-Solve.setup c.in-Solve.model c.answer_solve.result
    (g.I.Source.left c.args.input.now) (g.I.Source.left c.args.input.now) told _ _ _
    (run_state_of c.args.session.now told (g.H.Shelf.asked c.args.shelf.now)) (run_state_of c.answer_solve.new.session told (g.H.Shelf.asked c.answer_solve.new.shelf)) _ _ refl
    c.answer_solve.ensures.runs c.answer_solve.ensures.read_fault)

pub returns-in-Check-clause-runs : goal.returns-in-Check-clause-runs
returns-in-Check-clause-runs g c =
    let told = told_by (g.H.Shelf.files c.args.shelf.now) (g.H.Shelf.sure c.args.shelf.now) in
    command_runs (sym c.in-Check.is)
    (runs_check c.in-Check.model c.in-Check.certificate c.answer_check.result
    (g.I.Source.left c.args.input.now) (g.I.Source.left c.args.input.now) told _ _ _
    (run_state_of c.args.session.now told (g.H.Shelf.asked c.args.shelf.now))
    (run_state_of c.args.session.now told (g.H.Shelf.asked c.answer_check.new.shelf)) _ _
    c.answer_check.ensures.outcome c.answer_check.ensures.asks)

pub returns-in-Generate-clause-runs : goal.returns-in-Generate-clause-runs
returns-in-Generate-clause-runs g c =
    let told = told_by (g.H.Shelf.files c.args.shelf.now) (g.H.Shelf.sure c.args.shelf.now) in
    command_runs (sym c.in-Generate.is)
    (runs_generated c.in-Generate.recipe c.answer_generated.result
    (g.I.Source.left c.args.input.now) (g.I.Source.left c.args.input.now) told _ _
    (run_state_of c.args.session.now told (g.H.Shelf.asked c.args.shelf.now))
    (run_state_of c.answer_generated.new.session told
    (g.H.Shelf.asked c.answer_generated.new.shelf)) _ _
    c.answer_generated.ensures.pivots (generated_stops c.in-Generate.recipe _ _ _ _
    c.answer_generated.result c.answer_generated.ensures.outcome))

pub returns-in-Generate-clause-summary : goal.returns-in-Generate-clause-summary
returns-in-Generate-clause-summary g c =
    let told = told_by (g.H.Shelf.files c.args.shelf.now) (g.H.Shelf.sure c.args.shelf.now) in
    of_command (λ o. EndsWithSummary o c.answer_generated.result
    (machine_of c.args.session.now told) (machine_of c.answer_generated.new.session told)
    (Adds (g.O.Sink.written c.args.output.now) (g.O.Sink.written c.answer_generated.new.output)))
    (Some c.args.command) (Some (Generate c.in-Generate.recipe)) (ap Some (sym c.in-Generate.is))
    (λ ended. summary_ends c.in-Generate.recipe _ _ _ _ c.answer_generated.result ended
    c.answer_generated.ensures.outcome)

pub returns-in-Generate-clause-summary_prefix : goal.returns-in-Generate-clause-summary_prefix
returns-in-Generate-clause-summary_prefix g c =
    let told = told_by (g.H.Shelf.files c.args.shelf.now) (g.H.Shelf.sure c.args.shelf.now) in
    of_command (λ o. BeginsSummary o
    (machine_of c.args.session.now told) (machine_of c.answer_generated.new.session told)
    (AddsPrefix (g.O.Sink.written c.args.output.now)
    (g.O.Sink.written c.answer_generated.new.output)))
    (Some c.args.command) (Some (Generate c.in-Generate.recipe)) (ap Some (sym c.in-Generate.is))
    (summary_begins c.in-Generate.recipe _ _ _ _ c.answer_generated.result
    c.answer_generated.ensures.outcome)

pub returns-in-Generate-clause-unasked : goal.returns-in-Generate-clause-unasked
returns-in-Generate-clause-unasked g c _ =
    let stops = generated_stops c.in-Generate.recipe _ _ _ _ c.answer_generated.result
    c.answer_generated.ensures.outcome in
    (c.answer_generated.ensures.unasked, stops.0, stops.1)

pub returns-in-Generate-clause-sound_fetches : goal.returns-in-Generate-clause-sound_fetches
returns-in-Generate-clause-sound_fetches g c _ =
    ap g.H.Shelf.faults c.answer_generated.ensures.unasked
