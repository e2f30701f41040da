pub mod HeldItems
pub mod SteadySignals
pub mod LoopEdges
pub mod RoundRows
pub mod DroppedRounds
pub mod RoundSets
pub mod Forgetting
