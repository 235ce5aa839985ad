mod Held
mod Indexes
pub mod NodeLaws
mod Pigeons
mod Regions
mod Spellings
pub mod TreeLaws
