pub mod Seen
pub mod Grown
pub mod Counted
