pub mod Weights
pub mod Scoped
pub mod Whole
