pub mod Allows
pub mod NodesFit
pub mod RunTold
