pub mod Edge
pub mod Repair
pub mod Draw
pub mod Own
