pub mod Work
pub mod NodeSets
pub mod Lines
pub mod Fifos
