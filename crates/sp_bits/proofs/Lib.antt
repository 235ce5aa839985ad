mod Words
mod Tables
pub mod Same
