mod Nexts
mod Insides
mod Rooms
mod Chains
mod SiteLemmas
mod PairLemmas
mod ChangeWays
mod ListingLemmas
