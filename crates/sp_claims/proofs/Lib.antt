mod Lists
mod Typed
mod Worth
mod Atoms
mod Present
mod Closed
pub mod Against
