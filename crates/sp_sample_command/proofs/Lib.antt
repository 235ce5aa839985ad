pub mod Lawful
mod Accepted
mod Admitted
mod Counting
mod Printing
mod Reading
mod Unasserted
