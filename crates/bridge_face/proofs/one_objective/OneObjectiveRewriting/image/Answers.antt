use Rattle.std.proofs.Common.{sym, ap, ◌∙◌}
use Rattle.bridge_face.specs.FamilyLaws.{image_fits, image_is, source_is}
use Rattle.bridge_face.specs.ImageOf.{objective_at}
use Rattle.bridge_face.proofs.one_objective.OneObjectiveRewriting.image.Goals as goal

pub child-requires : goal.child-requires
child-requires g c =
    let r = g.met.R.ObjectiveRule.rule in
    (source_is r.rule c.args._edge c.requires.own c.args.item.now c.requires.suits).source

pub returns : goal.returns
returns g c =
    let r = g.met.R.ObjectiveRule.rule in (
      image_fits c.args._edge c.requires.own r.no_sum c.args.item.now,
      c.objective_image.ensures ∙ ap (objective_at c.args.item.now) c.in_ok-body.ensures
          ∙ sym (image_is r.rule c.args._edge c.requires.own c.args.item.now),
    )
