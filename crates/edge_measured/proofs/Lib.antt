pub mod Drawn
pub mod Place
pub mod Sizes
pub mod Numbers
