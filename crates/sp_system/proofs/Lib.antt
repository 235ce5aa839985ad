pub mod Elaborating
pub mod Lawful
