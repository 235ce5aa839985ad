pub mod Terms
pub mod Facts
pub mod Table
pub mod Clash
pub mod Follows
pub mod Branches
pub mod Laws
pub mod Questions
