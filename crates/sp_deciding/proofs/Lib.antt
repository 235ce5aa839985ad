pub mod Closed
pub mod Lawful
mod Branches
mod Counts
mod Lines
mod Progress
mod Refusing
