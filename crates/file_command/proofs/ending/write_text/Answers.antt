use Rattle.file_command.proofs.Ended.{whole}
use Rattle.file_command.proofs.ending.write_text.Goals as goal

pub returns-in-Ok-clause-ends : goal.returns-in-Ok-clause-ends
returns-in-Ok-clause-ends g c =
    whole c.args.text.now c.args.ended _ _ c.requires c.in-Ok.ensures.ok
