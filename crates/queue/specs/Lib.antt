pub mod Orders
pub mod Bags
