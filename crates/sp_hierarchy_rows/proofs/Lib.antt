pub mod Chains
pub mod Progress
