pub mod Entries
pub mod CaseRecords
pub mod Readings
pub mod Coming
pub mod Laws
