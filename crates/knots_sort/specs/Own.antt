pub mod Merge
pub mod Sortable
