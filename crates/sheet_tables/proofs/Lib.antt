pub mod Valid
pub mod Fits
pub mod Stores
pub mod Turns
pub mod Tables
