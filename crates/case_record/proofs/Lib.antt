pub mod Triples
pub mod Partings
pub mod Writings
pub mod Meanings
