pub mod Instances
pub mod Scripts
pub mod Values
