pub mod Spellings
pub mod Effects
pub mod Changed
pub mod Laws
pub mod Kept
