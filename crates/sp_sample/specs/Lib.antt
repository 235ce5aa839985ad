pub mod Pieces
pub mod Module
pub mod Interface
pub mod Instance
