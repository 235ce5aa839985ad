mod Lists
mod Maps
mod Changed
mod Order
mod Counts
pub mod Walks
pub mod Typed
mod Branches
mod OneCount
mod OfRank
