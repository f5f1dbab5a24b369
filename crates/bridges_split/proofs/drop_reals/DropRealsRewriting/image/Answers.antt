use Rattle.std.specs.Prelude.{refl}
use Rattle.bridge_face.specs.FamilyLaws.{image_fits, image_is}
use Rattle.bridge_face.specs.RowsLaws.{rows_alone}
use Rattle.std.proofs.Common.{sym, ap, ◌∙◌}
use Rattle.bridges_split.specs.DropRealsLaws.{rule}
use Rattle.bridges_split.proofs.drop_reals.DropRealsRewriting.image.Goals as goal

pub returns : goal.returns
returns c = (
  image_fits c.args._edge c.requires.own refl c.args._item.now,
  c.rows_image.ensures ∙ ap rows_alone c.new.ensures.items
      ∙ sym (image_is rule c.args._edge c.requires.own c.args._item.now),
)
