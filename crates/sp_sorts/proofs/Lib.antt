pub mod Exact
pub mod Names
pub mod Definite
pub mod Divided
