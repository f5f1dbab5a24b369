use Rattle.mapped_model.proofs.EditSteps.{placed_so, pushed_so, unpushed_so}
use Rattle.mapped_model.proofs.edits.push_edits.Goals as goal
use Rattle.std.proofs.Common.{refl}

pub push_pair-requires : goal.push_pair-requires
push_pair-requires c =
    placed_so c.args.model.now.model c.args.map.now c.args.row.now c.in_ok-func.func
    c.in_ok-func.ensures c.in-Some.mapped c.in-Some.is c.requires.valid c.requires.vector

pub returns-in_ok-push_pair-in-Some : goal.returns-in_ok-push_pair-in-Some
returns-in_ok-push_pair-in-Some c =
    pushed_so c.args.model.now.model c.args.map.now c.args.row.now c.in_ok-func.func
    c.in_ok-func.ensures c.in-Some.mapped c.args.cone.now c.args.edits.now.items
    c.push_pair.new.edits.items c.in-Some.is c.in_ok-push_pair-in-Some.ensures

pub returns-in-None : goal.returns-in-None
returns-in-None c = (
  unpushed_so c.args.model.now.model c.args.map.now c.args.row.now c.in_ok-func.func
      c.in_ok-func.ensures c.in-None.is,
  refl,
)
