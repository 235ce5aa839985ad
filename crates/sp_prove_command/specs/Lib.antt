pub mod Certificates
pub mod Kept
pub mod Prove
pub mod Laws
