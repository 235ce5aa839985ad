pub mod Common
pub mod WorkedFiles
pub mod Counting
pub mod Lamps
pub mod Stacks
pub mod Theorems
