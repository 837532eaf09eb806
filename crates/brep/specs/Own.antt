pub mod RunAt
pub mod RunOf
