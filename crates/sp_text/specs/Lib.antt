pub mod Classes
pub mod Firsts
pub mod Limits
pub mod Rules
pub mod Violations
