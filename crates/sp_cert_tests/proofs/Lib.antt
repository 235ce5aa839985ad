mod Nodes
mod Plain
