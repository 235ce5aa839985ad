pub mod Visible
pub mod Names
pub mod Translation
pub mod Broken
