pub mod Headers
pub mod Heads
pub mod Lent
pub mod Modules
pub mod Interfaces
pub mod Scopes
pub mod Laws
