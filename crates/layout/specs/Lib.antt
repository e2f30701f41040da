pub mod Pass
pub mod Nodes
pub mod Gaps
