use Rattle.std.proofs.Common.{refl}
use Rattle.item_core.specs.declared.item.Body.TheVariants.{PlainObj, AffineObj}
use Rattle.leaf_update.proofs.IndexLaws.{affine_indexed, plain_indexed}
use Rattle.leaf_update.proofs.indexed.leaf_objective.Goals as goal

pub index_of-requires : goal.index_of-requires
index_of-requires c =
    plain_indexed c.args.map.now.vars.indices c.args.leaf.now
    (PlainObj c.in-PlainObj.sense c.in-PlainObj.var) c.in-PlainObj.var c.in-PlainObj.is
    refl c.requires

pub by_index-requires : goal.by_index-requires
by_index-requires c =
    affine_indexed c.args.map.now.vars.indices c.args.leaf.now
    (AffineObj c.in-AffineObj.sense c.in-AffineObj.func) c.in-AffineObj.func c.in-AffineObj.is
    refl c.requires
