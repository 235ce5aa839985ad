pub mod Agree
mod Laws
pub mod Levels
mod Parts
mod Sound
pub mod Whole
