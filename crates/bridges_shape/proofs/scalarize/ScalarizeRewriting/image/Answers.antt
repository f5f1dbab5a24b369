use Rattle.std.specs.Prelude.{refl}
use Rattle.bridge_face.specs.FamilyLaws.{image_fits, image_is, source_is}
use Rattle.bridge_face.specs.RowsLaws.{rows_alone}
use Rattle.std.proofs.Common.{sym, ap, ◌∙◌}
use Rattle.bridges_shape.specs.ScalarizeLaws.{rule}
use Rattle.bridges_shape.proofs.scalarize.ScalarizeRewriting.image.Goals as goal

pub parts-requires-clause-row : goal.parts-requires-clause-row
parts-requires-clause-row c =
    (source_is rule c.args._edge c.requires.own c.args.item.now c.requires.suits).row

pub returns : goal.returns
returns c = (
  image_fits c.args._edge c.requires.own refl c.args.item.now,
  c.rows_image.ensures ∙ ap rows_alone c.in_ok-rows.ensures
      ∙ sym (image_is rule c.args._edge c.requires.own c.args.item.now),
)
