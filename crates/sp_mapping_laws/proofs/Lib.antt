mod Lists
mod Lattices
mod Lower
mod Types
mod Levels
pub mod Rows
mod Parameters
mod Functions
mod Whole
