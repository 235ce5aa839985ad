pub mod Steps
pub mod Accepted
pub mod Situations
pub mod Marked
pub mod Trail
pub mod Gaps
pub mod Front
pub mod Looking
