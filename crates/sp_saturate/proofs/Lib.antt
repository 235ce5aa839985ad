pub mod StepLemmas
mod Trails
mod Levels
mod Old
mod Closed
mod Parts
mod Counted
mod Clashing
