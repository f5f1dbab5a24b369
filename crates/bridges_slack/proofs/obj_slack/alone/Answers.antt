use Rattle.bridges_slack.specs.ObjSlackLaws.{is_one}
use Rattle.bridges_slack.proofs.obj_slack.alone.Goals as goal

pub unreachable-requires : goal.unreachable-requires
unreachable-requires c = is_one c.args.body.now c.requires c.in_default.not-AffineObj
