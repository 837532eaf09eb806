pub mod Causes
pub mod Own
