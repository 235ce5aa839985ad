pub mod Counts
pub mod Equations
pub mod Hierarchies
pub mod Interfaces
pub mod Lattices
pub mod Mappings
