use Rattle.std.proofs.Common.{ap, ◌∙◌}
use Rattle.relax_command.proofs.Kept.{text_kept}
use Rattle.relax_command.proofs.solving.told.Goals as goal
use Rattle.report_core.specs.declared.answer.Answer.TheVariants.{Printed}

pub returns : goal.returns
returns c = λ model from.
    let shown = c.in_ok-relaxation.ensures.shows model from in record {
      relaxation = c.in_ok-relaxation.relaxation;
      reads = c.in_ok-relaxation.ensures.reads model from;
      shows = shown;
      prints = ap Printed (c.in_ok-text.ensures
          ∙ text_kept model c.args.relaxed.now.model from c.in_ok-relaxation.relaxation shown);
    }
