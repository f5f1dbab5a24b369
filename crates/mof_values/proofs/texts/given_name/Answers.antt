use Rattle.std.proofs.Common.{Some, ap, ◌∙◌}
use Rattle.mof_values.proofs.NameTexts.{name_of-name}
use Rattle.mof_values.proofs.texts.given_name.Goals as goal

pub returns-in-Ok : goal.returns-in-Ok
returns-in-Ok c =
    ap Some c.in-Ok.ensures.ok ∙ name_of-name c.args.text.now c.in-Ok.ensures.is_name
