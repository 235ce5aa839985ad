mod Elements
pub mod Chains
mod Reached
