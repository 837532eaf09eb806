pub mod Split
pub mod Recorded
pub mod Recorder
