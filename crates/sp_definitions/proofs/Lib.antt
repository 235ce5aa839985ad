mod Cores
pub mod Greatest
