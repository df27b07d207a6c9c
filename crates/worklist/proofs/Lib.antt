mod Rings
pub mod Marking
mod Waiting
mod Sets
pub mod Whens
