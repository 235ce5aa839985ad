mod Heads
mod Rules
pub mod Recursion
pub mod Open
