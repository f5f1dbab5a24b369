use Rattle.std.proofs.Common.{ap, ◌∙◌}
use Rattle.certificates.specs.Points.{variables_of}
use Rattle.cert_text.specs.Text.{certificate_text}
use Rattle.report_core.specs.declared.answer.Answer.TheVariants.{Printed}
use Rattle.edit_engine.proofs.optimizing.printed.Goals as goal

pub returns : goal.returns
returns c =
    let certificate = c.args.certificate.now in
    ap Printed
    (c.in_ok-text.ensures.value
    ∙ ap (λ gs. certificate_text (variables_of gs) c.rows.result.now.items certificate)
    c.groups.ensures.value
    ∙ ap (λ rs. certificate_text (variables_of c.args.model.now.model.groups) rs certificate)
    c.rows.ensures.value)
