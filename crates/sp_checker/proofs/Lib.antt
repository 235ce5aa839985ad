mod Rooms
mod Trails
mod Following
mod Faults
mod Closes
mod Lifting
mod Raising
mod Spelled
