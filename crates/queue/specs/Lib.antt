pub mod Bounds
pub mod Orders
pub mod Queues
