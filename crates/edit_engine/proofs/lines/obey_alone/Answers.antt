-- Only a line `load` asks for a file.
use Rattle.std.proofs.Common.{sym, true≢false, ◌∙◌}
use Rattle.edit_engine.proofs.Asking.{not_load}
use Rattle.edit_engine.proofs.lines.obey_alone.Goals as goal

pub obey_without_file-requires : goal.obey_without_file-requires
obey_without_file-requires g c = not_load c.args.command c.in_default.not-Load

pub returns-in_default-clause-step : goal.returns-in_default-clause-step
returns-in_default-clause-step g c = c.obey_without_file.ensures.step _

pub returns-in_default-clause-cause : goal.returns-in_default-clause-cause
returns-in_default-clause-cause g c = λ on fault.
    absurd (true≢false (sym on ∙ not_load c.args.command c.in_default.not-Load))

pub returns-in_default-clause-asks : goal.returns-in_default-clause-asks
returns-in_default-clause-asks g c = λ on.
    absurd (true≢false (sym on ∙ not_load c.args.command c.in_default.not-Load))
