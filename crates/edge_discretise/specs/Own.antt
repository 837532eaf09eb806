pub mod Discretised
