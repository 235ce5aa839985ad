pub mod Interfaces
pub mod Instances
pub mod System
