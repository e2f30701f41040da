pub mod Boards
pub mod Differences
pub mod Offers
