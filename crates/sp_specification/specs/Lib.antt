pub mod Orders
pub mod Functions
pub mod Bodies
pub mod Ends
pub mod Broken
pub mod Meaning
pub mod Numbers
