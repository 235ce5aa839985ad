pub mod Arithmetic
pub mod Domains
pub mod Identity
