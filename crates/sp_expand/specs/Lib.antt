pub mod Expansion
pub mod Sizes
pub mod Parts
pub mod Laws
