pub mod Lawful
pub mod Named
pub mod Meant
pub mod Known
pub mod Places
