pub mod Corridor
pub mod Curves
pub mod Funnels
pub mod Laws
pub mod Scans
