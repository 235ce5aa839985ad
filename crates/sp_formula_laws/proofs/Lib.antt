pub mod Counts
pub mod FrontTypes
pub mod TypedTuples
pub mod TypedReferences
pub mod TypedItems
pub mod TypedFormulas
