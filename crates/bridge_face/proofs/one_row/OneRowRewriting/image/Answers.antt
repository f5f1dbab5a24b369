use Rattle.std.proofs.Common.{sym, ap, ◌∙◌}
use Rattle.ratio_core.specs.AnsweredLaws.{passed_on}
use Rattle.bridge_face.specs.FamilyLaws.{image_is, source_is}
use Rattle.bridge_face.specs.ImageOf.{ImageFits}
use Rattle.bridge_face.specs.Images.{row_at}
use Rattle.bridge_face.specs.OneRowLaws.{row_fits, row_fits_back}
use Rattle.bridge_face.proofs.one_row.OneRowRewriting.image.Goals as goal

pub child-requires-clause-suits : goal.child-requires-clause-suits
child-requires-clause-suits g c =
    let r = g.met.R.RowRule.rule in
    (source_is r.rule c.args._edge c.requires.own c.args.item.now c.requires.suits).source

pub returns-in_err-body : goal.returns-in_err-body
returns-in_err-body g c =
    passed_on c.from_residual.result c.in_err-body.field-0.0 (g.R.RowRule.fits c.args.item.now.body)
    (ImageFits c.args._edge c.args.item.now) _ _ c.from_residual.ensures.1 c.in_err-body.ensures
    (row_fits g.met.R.RowRule.rule c.args._edge c.requires.own c.args.item.now)

pub returns : goal.returns
returns g c =
    let r = g.met.R.RowRule.rule in (
      row_fits_back r c.args._edge c.requires.own c.args.item.now c.in_ok-body.ensures.0,
      c.in_ok-row_image.ensures ∙ ap (row_at c.args.item.now) c.in_ok-body.ensures.1
          ∙ sym (image_is r.rule c.args._edge c.requires.own c.args.item.now),
    )
