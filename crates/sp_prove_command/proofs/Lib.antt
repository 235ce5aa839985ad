mod Beside
mod Found
mod Kept
pub mod Lawful
mod Printing
mod Progress
mod Specified
