pub mod Quadruples
pub mod Partings
pub mod Writings
pub mod Meanings
