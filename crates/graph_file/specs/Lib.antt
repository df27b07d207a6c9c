pub mod Steps
pub mod Files
pub mod Gathering
pub mod Placing
pub mod Loads
pub mod Rules
pub mod Frames
