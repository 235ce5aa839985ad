pub mod TypedReads
pub mod Reference
mod Calls
mod Exceptions
pub mod Quiet
pub mod AlikeSteps
pub mod NoConflict
pub mod Secure
mod NoFunctions
