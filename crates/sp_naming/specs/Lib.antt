pub mod Numbers
pub mod Names
pub mod Levels
pub mod Declarations
pub mod Visibility
