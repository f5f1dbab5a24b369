-- What holds of the command holds of the one that the words say.
use Rattle.std.proofs.Common.{◌≡◌, sym, ◌∙◌, subst, refl}
use Rattle.command_words.specs.declared.words.Invocation.{Invocation}
use Rattle.moi_run.specs.RunState.{run_state_of}
use Rattle.edit_engine.specs.Held.{machine_of}
use Rattle.io_face.specs.Sink.{Adds, AddsPrefix}
use Rattle.io_face.specs.Told.{told_by}
use Rattle.moi_run.specs.Commands.{FetchesNothing, IfCheck, ReadsNothing}
use Rattle.moi_run.specs.Generated.{BeginsSummary, EndsWithSummary}
use Rattle.moi_run.proofs.Summaries.{nothing_begun, of_command}
use Rattle.moi_run.proofs.Running.{always_check, runs_of_none, runs_without_memory, said_runs, usage_at_command, usage_at_memory, usage_at_none}
use Rattle.moi_run.proofs.commands.obey_words.Goals as goal
use Rattle.std.specs.Prelude.{Option}

-- ---- a command

pub returns-in-Some-clause-usage : goal.returns-in-Some-clause-usage
returns-in-Some-clause-usage g c =
    usage_at_command c.obey.result c.in-Some.command _ (sym c.in-Some.is ∙ c.in-Ok.ensures.said)
    c.obey.ensures.not_usage

pub returns-in-Some-clause-runs : goal.returns-in-Some-clause-runs
returns-in-Some-clause-runs g c =
    said_runs (sym c.in-Some.is ∙ c.in-Ok.ensures.said) c.obey.ensures.runs

pub returns-in-Some-clause-idle : goal.returns-in-Some-clause-idle
returns-in-Some-clause-idle g c =
    subst (λ (o : Option Invocation). IfCheck o (λ _ _. c.obey.new.session ≡ c.args.session.now))
    (sym c.in-Some.is ∙ c.in-Ok.ensures.said) c.obey.ensures.idle

pub returns-in-Some-clause-unread : goal.returns-in-Some-clause-unread
returns-in-Some-clause-unread g c reads =
    c.obey.ensures.unread (subst ReadsNothing (sym (sym c.in-Some.is ∙ c.in-Ok.ensures.said)) reads)

pub returns-in-Some-clause-unasked : goal.returns-in-Some-clause-unasked
returns-in-Some-clause-unasked g c plans =
    c.obey.ensures.unasked (subst FetchesNothing (sym (sym c.in-Some.is ∙ c.in-Ok.ensures.said)) plans)

pub returns-in-Some-clause-summary : goal.returns-in-Some-clause-summary
returns-in-Some-clause-summary g c =
    let told = told_by (g.H.Shelf.files c.args.shelf.now) (g.H.Shelf.sure c.args.shelf.now) in
    of_command (λ o. EndsWithSummary o c.obey.result (machine_of c.args.session.now told)
    (machine_of c.obey.new.session told) (Adds (g.O.Sink.written c.args.output.now)
    (g.O.Sink.written c.obey.new.output))) _ _ (sym c.in-Some.is ∙ c.in-Ok.ensures.said)
    c.obey.ensures.summary

pub returns-in-Some-clause-summary_prefix : goal.returns-in-Some-clause-summary_prefix
returns-in-Some-clause-summary_prefix g c =
    let told = told_by (g.H.Shelf.files c.args.shelf.now) (g.H.Shelf.sure c.args.shelf.now) in
    of_command (λ o. BeginsSummary o (machine_of c.args.session.now told)
    (machine_of c.obey.new.session told) (AddsPrefix (g.O.Sink.written c.args.output.now)
    (g.O.Sink.written c.obey.new.output))) _ _ (sym c.in-Some.is ∙ c.in-Ok.ensures.said)
    c.obey.ensures.summary_prefix

-- ---- no command

pub returns-in-None-clause-summary_prefix : goal.returns-in-None-clause-summary_prefix
returns-in-None-clause-summary_prefix g c =
    let m = machine_of c.args.session.now (told_by (g.H.Shelf.files c.args.shelf.now)
    (g.H.Shelf.sure c.args.shelf.now)) in
    nothing_begun _ m m (g.O.Sink.written c.args.output.now)

pub returns-in-None-clause-usage : goal.returns-in-None-clause-usage
returns-in-None-clause-usage g c = usage_at_none _ (sym c.in-None.is ∙ c.in-Ok.ensures.said)

pub returns-in-None-clause-runs : goal.returns-in-None-clause-runs
returns-in-None-clause-runs g c = said_runs (sym c.in-None.is ∙ c.in-Ok.ensures.said)
    (runs_of_none (g.I.Source.left c.args.input.now) (told_by (g.H.Shelf.files c.args.shelf.now)
    (g.H.Shelf.sure c.args.shelf.now)) _ _
    (run_state_of c.args.session.now (told_by (g.H.Shelf.files c.args.shelf.now)
    (g.H.Shelf.sure c.args.shelf.now)) (g.H.Shelf.asked c.args.shelf.now)) (g.O.Sink.written c.args.output.now))

pub returns-in-None-clause-idle : goal.returns-in-None-clause-idle
returns-in-None-clause-idle g c = always_check _ _ (λ _ _. refl)

-- ---- memory ran out

pub returns-in-Err-clause-summary_prefix : goal.returns-in-Err-clause-summary_prefix
returns-in-Err-clause-summary_prefix g c =
    let m = machine_of c.args.session.now (told_by (g.H.Shelf.files c.args.shelf.now)
    (g.H.Shelf.sure c.args.shelf.now)) in
    nothing_begun _ m m (g.O.Sink.written c.args.output.now)

pub returns-in-Err-clause-usage : goal.returns-in-Err-clause-usage
returns-in-Err-clause-usage g c = usage_at_memory _ c.in-Err.ensures.of_one

pub returns-in-Err-clause-runs : goal.returns-in-Err-clause-runs
returns-in-Err-clause-runs g c =
    let told = told_by (g.H.Shelf.files c.args.shelf.now) (g.H.Shelf.sure c.args.shelf.now) in
    runs_without_memory _ (g.I.Source.left c.args.input.now)
    (g.I.Source.left c.args.input.now) told _ _
    (run_state_of c.args.session.now told (g.H.Shelf.asked c.args.shelf.now)) (run_state_of c.args.session.now told (g.H.Shelf.asked c.args.shelf.now))
    (g.O.Sink.written c.args.output.now)

pub returns-in-Err-clause-idle : goal.returns-in-Err-clause-idle
returns-in-Err-clause-idle g c = always_check _ _ (λ _ _. refl)
