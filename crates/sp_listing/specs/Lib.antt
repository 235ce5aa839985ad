pub mod Listing
pub mod True
pub mod Conditions
pub mod Laws
