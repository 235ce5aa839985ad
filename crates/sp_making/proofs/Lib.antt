pub mod Counts
pub mod Earlier
pub mod Growing
pub mod Numbered
pub mod Viewed
