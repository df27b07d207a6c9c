pub mod Caps
