pub mod Activities
pub mod Repeating
pub mod Moves
pub mod HeldAfter
