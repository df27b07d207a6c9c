pub mod Net
pub mod Routes
pub mod Judged
pub mod Kinds
pub mod Tables
pub mod Runs
pub mod Rules
pub mod Tabled
