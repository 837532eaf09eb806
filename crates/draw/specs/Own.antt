pub mod Straight
