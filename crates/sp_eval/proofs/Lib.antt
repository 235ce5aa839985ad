mod Nodes
mod Ready
mod Own
mod Claims
mod Overlaid
