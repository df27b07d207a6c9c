pub mod Order
pub mod Lists
