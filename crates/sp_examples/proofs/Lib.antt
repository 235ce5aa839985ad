pub mod NameLemmas
pub mod PlainChanges
pub mod Parts
mod Examples
pub mod WorkedLemmas
pub mod CountingLemmas
mod LampLemmas
mod StackLemmas
mod SecurityLemmas
