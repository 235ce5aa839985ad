pub mod Stepping
pub mod Moments
pub mod Laws
