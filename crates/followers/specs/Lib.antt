pub mod Followers
pub mod Backwards
pub mod Tables
