pub mod Judgements
pub mod Batches
pub mod Held
pub mod Laws
