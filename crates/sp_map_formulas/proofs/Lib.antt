mod Nexts
pub mod TypedRows
