pub mod Depths
pub mod RowsCause
