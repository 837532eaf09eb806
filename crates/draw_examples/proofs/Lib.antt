pub mod Sweep
pub mod Examples
