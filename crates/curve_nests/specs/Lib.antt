pub mod Nests
pub mod Own
