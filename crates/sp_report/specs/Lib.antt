pub mod Faults
pub mod Constants
pub mod Expressions
pub mod Headings
pub mod Formulas
pub mod Answers
