pub mod Codes
pub mod Lang
pub mod Within
pub mod Texts
