mod Comparing
pub mod Firsts
pub mod Heaps
