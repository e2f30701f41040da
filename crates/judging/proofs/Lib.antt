pub mod HeldLines
pub mod Bases
pub mod Movables
