pub mod RowsOfTrees
pub mod FirstFaults
pub mod CheckSteps
