pub mod Figured
pub mod Sheet
pub mod Formed
pub mod Turns
pub mod Once
pub mod Parts
pub mod Ready
pub mod Settling
