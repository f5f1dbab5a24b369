use Rattle.std.proofs.Common.{◌∙◌}
use Rattle.ratio_core.proofs.Products.{inverse_stored, inverse_value}
use Rattle.ratio_core.proofs.fraction.Ratio.inverse.Goals as goal

pub store-requires : goal.store-requires
store-requires c =
    inverse_stored c.args.self.now c.size.result c.over.result c.size.ensures.value
    c.over.ensures.value c.is_negative.result c.is_negative.ensures
    c.size.ensures.fits c.over.ensures.fits c.requires

pub returns : goal.returns
returns c =
    c.store.ensures
    ∙ inverse_value c.args.self.now c.size.result c.over.result c.size.ensures.value
    c.over.ensures.value c.is_negative.result c.is_negative.ensures
