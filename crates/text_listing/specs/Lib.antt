pub mod Listing
pub mod ReadBack
pub mod Own
