pub mod Lawful
pub mod Runs
mod Few
mod Lines
mod Preparing
mod Printing
mod Members
