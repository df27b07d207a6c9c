pub mod Joining
pub mod Joins
