use Rattle.std.proofs.Common.{sym, ◌∙◌}
use Rattle.std.specs.FinMap as finite
use Rattle.aff_core.specs.Address.{address_cmp}
use Rattle.map_laws.specs.MadeLaws.{entries_empty}
use Rattle.item_map.proofs.GapLaws.{made_map}
use Rattle.item_map.proofs.ordered.Ordered.new.Goals as goal

pub returns : goal.returns
returns g c = made_map finite.empty _ (c.new.ensures ∙ sym (entries_empty address_cmp))
