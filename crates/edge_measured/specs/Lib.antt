pub mod Drawn
pub mod Place
pub mod Numbers
