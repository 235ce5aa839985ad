mod Made
mod Rooms
pub mod Known
pub mod Names
pub mod Asserted
mod Equated
mod Defining
