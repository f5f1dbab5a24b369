use Rattle.std.specs.Prelude.{refl}
use Rattle.bridge_face.specs.FamilyLaws.{image_fits, source_is}
use Rattle.std.proofs.Common.{ap, ◌∙◌}
use Rattle.aff_core.specs.Address.{child_of}
use Rattle.aff_core.specs.Function.{coefficient}
use Rattle.bridge_face.specs.Images.{function_of_body}
use Rattle.bridges_slack.specs.ObjSlackLaws.{parts_made, rule, unnamed_there}
use Rattle.bridges_slack.proofs.obj_slack.ObjSlackRewriting.image.Goals as goal

pub over-requires-clause-affine : goal.over-requires-clause-affine
over-requires-clause-affine c =
    (source_is rule c.args._edge c.requires.own c.args.item.now c.requires.suits).objective

pub over-requires-clause-absent : goal.over-requires-clause-absent
over-requires-clause-absent c =
    ap (coefficient (function_of_body c.args.item.now.body)) (c.child-var.ensures
    ∙ ap (λ at. child_of at 0) c.child-at.ensures)
    ∙ unnamed_there c.args._edge c.requires.own c.args.item.now c.requires.suits

pub alone-requires : goal.alone-requires
alone-requires c =
    (source_is rule c.args._edge c.requires.own c.args.item.now c.requires.suits).objective

pub returns : goal.returns
returns c = (
  image_fits c.args._edge c.requires.own refl c.args.item.now,
  parts_made c.args._edge c.requires.own c.args.item.now c.requires.suits c.child-at.result
      c.child-var.result c.child-at-2.result c.child.result c.in_ok-vars.vars c.in_ok-groups.groups
      c.in_ok-rows.rows c.new.result c.in_ok-body.body c.alone.result
      c.child-at.ensures c.child-var.ensures c.child-at-2.ensures c.child.ensures
      c.in_ok-vars.ensures c.in_ok-groups.ensures c.in_ok-rows.ensures c.new.ensures
      c.in_ok-body.ensures c.alone.ensures,
)
