pub mod Stored
pub mod Records
