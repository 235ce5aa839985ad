pub mod Judged
pub mod Verify
pub mod Migrate
pub mod Laws
