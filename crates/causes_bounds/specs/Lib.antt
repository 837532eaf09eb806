pub mod Some
pub mod Bounds
