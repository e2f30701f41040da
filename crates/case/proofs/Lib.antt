pub mod Living
pub mod Anew
pub mod Loading
