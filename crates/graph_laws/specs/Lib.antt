pub mod Grammar
pub mod Overtaking
pub mod Faults
