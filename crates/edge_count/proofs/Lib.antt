pub mod Counting
pub mod Walking
pub mod Thinning
pub mod Laws
