pub mod Lines
pub mod Laws
pub mod Sampled
pub mod Refused
