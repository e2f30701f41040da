pub mod Entering
pub mod Moving
pub mod Keeping
pub mod Offering
