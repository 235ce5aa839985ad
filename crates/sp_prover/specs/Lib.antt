pub mod Order
pub mod Deciding
pub mod Exploring
