pub mod Cases
pub mod Examples
