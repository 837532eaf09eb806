pub mod Thinning
pub mod Drawing
