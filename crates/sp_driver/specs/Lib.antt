pub mod Certified
pub mod Laws
pub mod Report
pub mod Run
pub mod Secure
pub mod Shown
