mod Closing
mod Declared
mod Entries
pub mod OrderLaws
mod Orders
mod Places
mod Products
mod Uppers
