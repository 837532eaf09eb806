pub mod Buffers
pub mod Redrawn
