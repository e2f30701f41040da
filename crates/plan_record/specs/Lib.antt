pub mod Changes
pub mod PlanRecords
pub mod Readings
pub mod Laws
