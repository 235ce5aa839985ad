pub mod Index
pub mod Kept
pub mod Nodes
pub mod Records
pub mod Spelling
pub mod Trees
