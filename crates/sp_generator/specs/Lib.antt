pub mod Collected
pub mod Room
pub mod Sites
pub mod Pairs
pub mod Listed
