pub mod Reading
pub mod Checks
pub mod Seen
pub mod Causes
pub mod Schemas
pub mod Tables
