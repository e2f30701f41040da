pub mod Laws
pub mod Growth
pub mod FalseGaps
