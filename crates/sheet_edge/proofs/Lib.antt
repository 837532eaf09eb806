pub mod Singles
pub mod Both
