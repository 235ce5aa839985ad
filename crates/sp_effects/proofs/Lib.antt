pub mod Lengths
pub mod Joining
pub mod Lists
pub mod Beyond
pub mod Appended
pub mod Greatest
pub mod Branches
