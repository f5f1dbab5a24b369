use Rattle.std.proofs.Common.{◌+◌, ap, ◌∙◌, drop}
use Rattle.std.specs.Prelude.{flat_map}
use Rattle.std.proofs.lemmas.List.{drop_all}
use Rattle.fresh_bridging.specs.Leaves.{leaf_rows}
use Rattle.map_laws.specs.LoopLaws.{next_item}
use Rattle.leaf_update.specs.Others.{among}
use Rattle.leaf_update.specs.Splice.{keys_of}
use Rattle.leaf_update.proofs.OtherSteps.{all_keys, next_keys}
use Rattle.leaf_update.proofs.others.rows_put.Goals as goal

pub loop-leaf-preserved : goal.loop-leaf-preserved
loop-leaf-preserved c =
    let l = c.loop-leaf in
    let leaves = c.args.leaves.now in
    next_keys leaf_rows (drop l.leaf-index leaves) (drop (l.leaf-index + 1) leaves)
    c.leaf-item.result l.put.items c.add_row.new.put.items (keys_of (flat_map leaf_rows leaves))
    (next_item leaves leaves l.leaf-index c.leaf-item.result (λ i. leaves) c.leaf-item.is
    c.loop-leaf-test.true) c.in_ok-add_row.ensures l.invariant

pub returns : goal.returns
returns c =
    let l = c.loop-leaf in
    let leaves = c.args.leaves.now in
    c.of.ensures
    ∙ ap among (all_keys leaf_rows (drop l.leaf-index leaves) l.put.items
    (keys_of (flat_map leaf_rows leaves)) (drop_all l.leaf-index leaves c.loop-leaf-test.false)
    l.invariant)
