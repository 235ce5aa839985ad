pub mod Runs
pub mod Comparing
pub mod Views
pub mod Laws
