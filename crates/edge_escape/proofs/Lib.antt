pub mod Near
pub mod Search
pub mod Sweep
