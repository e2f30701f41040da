pub mod Passing
pub mod Taking
pub mod Wrongs
pub mod Rights
pub mod Onlys
pub mod Lines
pub mod Checked
pub mod Distincts
