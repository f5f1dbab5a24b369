use Rattle.std.proofs.Common.{sym, ◌∙◌}
use Rattle.cache_layer.proofs.Optimized.{always_told}
use Rattle.cache_layer.proofs.optimize.in_names.Goals as goal

pub unreachable-requires : goal.unreachable-requires
unreachable-requires c =
    always_told c.args.model.now.model c.args.fault c.in-Overflow.at c.in-Overflow.is c.requires
    (sym c.in-Ok-None.ensures ∙ c.in-Ok-None.field-0-is)
