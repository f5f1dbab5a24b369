use Rattle.std.proofs.Common.{◌∙◌}
use Rattle.ratio_core.proofs.Products.{abs_stored, abs_value}
use Rattle.ratio_core.proofs.fraction.Ratio.abs.Goals as goal

pub store-requires : goal.store-requires
store-requires c =
    abs_stored c.args.self.now c.size.result c.over.result c.size.ensures.value c.over.ensures.value
    c.size.ensures.fits c.over.ensures.fits

pub returns : goal.returns
returns c =
    c.store.ensures ∙ abs_value c.args.self.now c.size.result c.over.result c.size.ensures.value
    c.over.ensures.value
