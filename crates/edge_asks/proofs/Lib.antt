pub mod Steps
pub mod Near
pub mod Telling
