use Rattle.std.proofs.Common.{refl}
use Rattle.item_core.specs.declared.item.Body.TheVariants.{Plain, Affine}
use Rattle.leaf_update.proofs.IndexLaws.{affine_indexed, plain_indexed}
use Rattle.leaf_update.proofs.indexed.leaf_row.Goals as goal

pub index_of-requires : goal.index_of-requires
index_of-requires c =
    plain_indexed c.args.map.now.vars.indices c.args.leaf.now (Plain c.in-Plain.var c.in-Plain.set)
    c.in-Plain.var c.in-Plain.is refl c.requires.indexed

pub by_index-requires : goal.by_index-requires
by_index-requires c =
    affine_indexed c.args.map.now.vars.indices c.args.leaf.now
    (Affine c.in-Affine.func c.in-Affine.set) c.in-Affine.func c.in-Affine.is refl
    c.requires.indexed
