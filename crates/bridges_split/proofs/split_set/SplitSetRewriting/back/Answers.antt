use Rattle.std.proofs.Common.{sym, ap, ◌∙◌, arith, length, [], ◌∷◌}
use Rattle.bridge_face.specs.FamilyLaws.{dual_count, image_is, only_two}
use Rattle.bridge_face.specs.Images.{rows_at}
use Rattle.bridges_split.specs.SplitSetLaws.{back_two, lower, rule, same_sizes, upper}
use Rattle.bridges_split.proofs.split_set.SplitSetRewriting.back.Goals as goal

pub bounds-duals-0 : goal.bounds-duals-0
bounds-duals-0 c =
    let two = dual_count c.args._kept.now.edge c.args._kept.now.item
    (rows_at c.args._kept.now.item (lower c.args._kept.now.item.body ∷ upper
    c.args._kept.now.item.body ∷ [])) (image_is rule c.args._kept.now.edge c.requires.own
    c.args._kept.now.item) c.args.duals.now c.requires.duals in
    omega (arith, two)

pub bounds-duals-1 : goal.bounds-duals-1
bounds-duals-1 c =
    let two = dual_count c.args._kept.now.edge c.args._kept.now.item
    (rows_at c.args._kept.now.item (lower c.args._kept.now.item.body ∷ upper
    c.args._kept.now.item.body ∷ [])) (image_is rule c.args._kept.now.edge c.requires.own
    c.args._kept.now.item) c.args.duals.now c.requires.duals in
    omega (arith, two)

pub place_sums-requires : goal.place_sums-requires
place_sums-requires c =
    let two = dual_count c.args._kept.now.edge c.args._kept.now.item
    (rows_at c.args._kept.now.item (lower c.args._kept.now.item.body ∷ upper
    c.args._kept.now.item.body ∷ [])) (image_is rule c.args._kept.now.edge c.requires.own
    c.args._kept.now.item) c.args.duals.now c.requires.duals in
    ap length c.as_slice.ensures
    ∙ same_sizes c.args._kept.now.edge c.requires.own c.args._kept.now.item c.requires.suits
    c.args.duals.now c.index-duals-0.result c.index-duals-1.result c.requires.duals
    (only_two c.args.duals.now c.index-duals-0.result c.index-duals-1.result two
    c.index-duals-0.is c.index-duals-1.is)
    ∙ sym (ap length c.as_slice-2.ensures)

pub returns : goal.returns
returns c =
    let two = dual_count c.args._kept.now.edge c.args._kept.now.item
    (rows_at c.args._kept.now.item (lower c.args._kept.now.item.body ∷ upper
    c.args._kept.now.item.body ∷ [])) (image_is rule c.args._kept.now.edge c.requires.own
    c.args._kept.now.item) c.args.duals.now c.requires.duals in
    back_two c.args._kept.now.edge c.requires.own c.args._kept.now.item c.args.duals.now
    c.as_slice.result.now c.as_slice-2.result.now c.index-duals-0.result c.index-duals-1.result
    c.place_sums.result
    (only_two c.args.duals.now c.index-duals-0.result c.index-duals-1.result two c.index-duals-0.is
    c.index-duals-1.is)
    c.as_slice.ensures c.as_slice-2.ensures c.place_sums.ensures
