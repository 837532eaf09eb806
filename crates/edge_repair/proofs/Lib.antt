pub mod Redrawn
pub mod Ways
