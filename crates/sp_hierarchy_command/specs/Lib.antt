pub mod Hierarchy
pub mod Reports
pub mod Secure
