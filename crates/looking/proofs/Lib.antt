pub mod Entries
pub mod Nodes
pub mod Lists
pub mod Admissions
pub mod Replays
