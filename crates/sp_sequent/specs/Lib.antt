pub mod Same
pub mod Subterms
pub mod Numbers
pub mod OwnTypes
pub mod Limits
pub mod Sequents
pub mod Claims
