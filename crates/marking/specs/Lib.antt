pub mod Machine
pub mod States
pub mod Markings
pub mod Nearby
