pub mod Routing
pub mod Walks
