pub mod Written
pub mod Lines
pub mod Laws
pub mod Examples
pub mod ReadBack
