use Rattle.std.proofs.Common.{sym, ◌∙◌}
use Rattle.cache_layer.proofs.PlaceLemmas.{no_place}
use Rattle.cache_layer.proofs.bridging.in_names.Goals as goal

pub unreachable-requires : goal.unreachable-requires
unreachable-requires g c =
    no_place c.args.model.now.model c.args.fault c.in-Overflow.at c.in-Overflow.is c.requires
    c.objective-valid.ensures.valid (sym c.in-Ok-None.ensures ∙ c.in-Ok-None.field-0-is)
