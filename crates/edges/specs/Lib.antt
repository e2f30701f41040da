pub mod Edges
pub mod Places
pub mod Verdicts
