pub mod Judged
pub mod Exceptions
pub mod Assertions
pub mod Equations
pub mod Depths
pub mod DefinitionTexts
pub mod Laws
