pub mod Hex
pub mod Pairs
pub mod Records
pub mod SchemaRecords
pub mod Readings
pub mod Lines
pub mod Laws
