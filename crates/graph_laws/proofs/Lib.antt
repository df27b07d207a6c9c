pub mod Front
pub mod Lowest
pub mod Only
pub mod Takes
