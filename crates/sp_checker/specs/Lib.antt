pub mod Trail
pub mod Known
pub mod Accepting
pub mod Migration
pub mod Raising
pub mod Lifts
