pub mod Leaves
pub mod Numerals
pub mod Sized
pub mod Top
pub mod Verbs
pub mod Walks
