pub mod Narrow
pub mod Rests
pub mod Finds
pub mod Shapes
pub mod Walks
pub mod Laid
pub mod Facts
pub mod Items
