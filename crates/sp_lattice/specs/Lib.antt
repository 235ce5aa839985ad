pub mod Bounds
pub mod Closure
pub mod Order
pub mod Product
pub mod Refusal
pub mod Table
