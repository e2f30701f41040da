pub mod Replicas
pub mod Answers
