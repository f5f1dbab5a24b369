use Rattle.std.proofs.Common.{ap₂, sym, ◌∙◌}
use Rattle.relax_command.proofs.Lines.{text_same}
use Rattle.relaxation.specs.declared.reading.Relaxation.TheVariants.{Hopeless, Least}
use Rattle.relax_command.proofs.printing.push_relaxation.Goals as goal

pub returns-in-Least : goal.returns-in-Least
returns-in-Least c =
    text_same c.args.relaxed.now.model c.args.relaxation.now _ c.push_least.result c.args.draft.now
    c.push_least.new.draft
    (c.in-Least.is ∙ ap₂ (Least c.in-Least.total) (sym c.as_slice.ensures)
    (sym c.as_slice-in-Least.ensures))
    c.push_least.ensures

pub returns-in-Hopeless : goal.returns-in-Hopeless
returns-in-Hopeless c =
    text_same c.args.relaxed.now.model c.args.relaxation.now _ c.push_hopeless.result
    c.args.draft.now c.push_hopeless.new.draft
    (c.in-Hopeless.is ∙ ap₂ (Hopeless c.in-Hopeless.gap) (sym c.as_slice-in-Hopeless.ensures)
    (sym c.as_slice-in-Hopeless-2.ensures))
    c.push_hopeless.ensures
