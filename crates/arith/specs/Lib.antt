pub mod Notation
pub mod Pick
pub mod Floor
pub mod Periods
pub mod Constants
