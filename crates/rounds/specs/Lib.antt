pub mod Rounds
pub mod Laws
