pub mod FactsAfter
pub mod Progress
pub mod Lengths
pub mod SoundRows
pub mod GrowTrees
pub mod GrowRuns
pub mod Deciders
