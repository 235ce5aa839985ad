mod Purges
mod RunLemmas
mod CompareLemmas
mod SecureLemmas
mod ViewLemmas
mod CompareFaults
