pub mod Lawful
mod Accepted
mod Certified
mod Chain
mod Migrated
mod Printing
mod Progress
