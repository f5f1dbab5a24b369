use Rattle.std.specs.Prelude.{refl}
use Rattle.bridge_face.specs.FamilyLaws.{back_fits, back_is}
use Rattle.std.proofs.Common.{sym, ◌∙◌}
use Rattle.bridges_shape.specs.ScalarizeLaws.{rule}
use Rattle.bridges_shape.proofs.scalarize.ScalarizeRewriting.back.Goals as goal

pub returns : goal.returns
returns c = (
  back_fits c.args._kept.now.edge c.requires.own refl c.args._kept.now.item c.args.duals.now,
  c.in_ok-one_after_another.ensures ∙ sym (back_is rule c.args._kept.now.edge c.requires.own
      c.args._kept.now.item c.args.duals.now),
)
