pub mod Stages
pub mod Rules
pub mod Causes
pub mod Plans
pub mod Laws
pub mod Reasons
