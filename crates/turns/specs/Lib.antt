pub mod Passing
pub mod Working
