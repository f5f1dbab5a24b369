-- Which addresses are at or below that of an item of the model, by a name of this crate.
pub use Rattle.item_map.specs.ItemAddresses.{is_of, item_of}
