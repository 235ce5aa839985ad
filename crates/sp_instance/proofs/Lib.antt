mod Indexes
mod Texts
pub mod Typed
mod Lists
mod Fresh
mod Seen
mod Judged
pub mod Made
pub mod Called
