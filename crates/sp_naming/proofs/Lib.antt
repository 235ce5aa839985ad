pub mod Gathering
mod Indexes
pub mod Meanings
mod Numbering
mod Products
