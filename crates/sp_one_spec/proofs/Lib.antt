pub mod Effects
pub mod Functions
pub mod Whole
