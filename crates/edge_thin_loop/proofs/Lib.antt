pub mod Span
pub mod Marks
pub mod Turns
pub mod Agree
pub mod Within
pub mod Laws
