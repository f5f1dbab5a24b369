-- Of some addresses those that are at or below that of a user's item.
use Rattle.std.specs.Prelude.{List, filter}
use Rattle.aff_core.specs.Address.{Address}
pub use Rattle.item_map.specs.ItemAddresses.{is_of, item_of}

abbrev pub those_of : Address → List Address → List Address
those_of item ats = filter (is_of item) ats
