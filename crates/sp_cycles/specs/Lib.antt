pub mod Order
pub mod Reaches
pub mod Laws
