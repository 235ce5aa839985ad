pub mod Worked
pub mod Lists
pub mod Theorems
