pub mod Decisions
mod Front
pub mod Laws
mod Leaves
mod Levels
pub mod Present
mod Ranks
pub mod Steps
