pub mod Lawful
pub mod Accepted
pub mod Printing
mod Few
