pub mod Walk
pub mod Flags
pub mod Same
