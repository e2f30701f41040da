pub mod Steps
pub mod Histories
