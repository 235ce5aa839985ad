pub mod Contract
pub mod Front
pub mod Grammar
pub mod Levels
pub mod Marks
