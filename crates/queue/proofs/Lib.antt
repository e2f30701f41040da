pub mod InStep
pub mod Listed
pub mod Once
pub mod Withdrawn
