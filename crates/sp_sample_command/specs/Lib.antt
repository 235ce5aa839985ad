pub mod Texts
pub mod Summary
pub mod Sample
pub mod Secure
