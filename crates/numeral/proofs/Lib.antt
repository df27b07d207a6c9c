pub mod Back
pub mod Cuts
pub mod FirstLine
pub mod Order
pub mod Reading
pub mod Written
