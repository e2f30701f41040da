pub mod ChangedNodes
pub mod BusyNodes
pub mod FewerEdges
pub mod HaltedRuns
pub mod Hindrances
pub mod ChangedRows
pub mod Judged
