pub mod Curve
pub mod Laws
pub mod Lines
pub mod Parts
pub mod Runs
