pub mod Conditions
pub mod Settings
pub mod Admissible
pub mod Overlays
pub mod Laws
