pub mod OpenBlocks
pub mod Climbs
pub mod Activities
pub mod EdgedSteps
pub mod Starts
pub mod EdgedRuns
pub mod Settling
pub mod Judging
