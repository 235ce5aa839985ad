pub mod ReadLaws
mod Lists
mod Nodes
