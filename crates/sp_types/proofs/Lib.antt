pub mod Made
pub mod Passes
