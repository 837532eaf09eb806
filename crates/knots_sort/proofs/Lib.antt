pub mod Merged
pub mod Sorted
pub mod Turn
pub mod Halves
pub mod Examples
