pub mod Lawful
mod Comparisons
mod Lists
mod Printing
