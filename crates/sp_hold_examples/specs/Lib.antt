pub mod Quarrel
pub mod Theorems
