pub mod Asks
pub mod Own
