pub mod Given
pub mod Lawful
mod Few
mod Stops
