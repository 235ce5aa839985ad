pub mod Blocks
pub mod Hidden
pub mod Laws
