pub mod Fitting
pub mod Typed
pub mod Quotes
pub mod Defined
pub mod Elaborated
