pub mod Written
pub mod Again
