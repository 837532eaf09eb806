pub mod Thinning
pub mod Quarters
pub mod Kept
