pub mod Judging
pub mod Restarts
pub mod Rules
