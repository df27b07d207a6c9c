pub mod Points
pub mod Blanks
pub mod Counting
mod Whens
