mod Conditions
mod Numbered
pub mod Seen
