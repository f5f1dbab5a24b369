use Rattle.std.proofs.Common.{sym, ◌∙◌}
use Rattle.bridge_face.specs.FamilyLaws.{image_fits, image_is, source_is}
use Rattle.bridge_face.proofs.one_group.OneGroupRewriting.image.Goals as goal

pub image-requires-clause-suits : goal.image-requires-clause-suits
image-requires-clause-suits g c =
    let r = g.met.R.GroupRule.rule in
    source_is r.rule c.args.edge c.requires.own c.args.item.now c.requires.suits

pub returns : goal.returns
returns g c =
    let r = g.met.R.GroupRule.rule in (
      image_fits c.args.edge c.requires.own r.no_sum c.args.item.now,
      c.in_ok-image.ensures ∙ sym (image_is r.rule c.args.edge c.requires.own c.args.item.now),
    )
