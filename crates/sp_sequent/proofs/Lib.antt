pub mod Weights
pub mod Numbering
pub mod Inserting
pub mod OwnTypeLemmas
pub mod Short
pub mod Sequencing
