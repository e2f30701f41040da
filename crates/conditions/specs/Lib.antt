pub mod Deciders
pub mod Conditions
pub mod Meaning
pub mod Kinds
