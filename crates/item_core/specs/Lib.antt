pub mod Kind
pub mod Edge
pub mod KindOf
pub mod Item
pub mod Valid
pub mod Table
pub mod EdgeLaws
