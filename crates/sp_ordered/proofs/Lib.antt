pub mod Levels
pub mod Flaws
pub mod Counts
pub mod Judged
pub mod Told
pub mod Broken
