pub mod Forms
pub mod Effects
pub mod NewReads
pub mod Cycles
pub mod Results
pub mod Within
