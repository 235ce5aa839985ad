pub mod Reads
pub mod ReadTexts
pub mod Laws
