pub mod LeastIds
pub mod BusyNodes
pub mod Against
pub mod Orders
pub mod Judgements
pub mod StageByStage
pub mod Begun
