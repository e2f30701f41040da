pub mod Refusals
pub mod Offers
pub mod Views
pub mod Calls
pub mod Moves
pub mod Lives
pub mod Laws
