pub mod Words
pub mod Meanings
pub mod Heads
pub mod Populations
pub mod Tables
pub mod Instances
pub mod Scripts
