pub mod Short
pub mod Unasserted
mod Joined
