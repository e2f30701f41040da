pub mod Logs
pub mod Backwards
