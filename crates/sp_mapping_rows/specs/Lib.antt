pub mod Levelled
