pub mod Check
pub mod Secure
