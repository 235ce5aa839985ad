pub mod Texts
pub mod Sorts
pub mod Levels
pub mod Certificates
