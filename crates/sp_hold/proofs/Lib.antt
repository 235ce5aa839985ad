mod Scopes
mod Bridge
mod MoveLemmas
mod SettleLemmas
mod ReferenceFits
mod Scoped
mod Moved
mod NoNew
mod AssertionLemmas
mod Asserted
pub mod Gives
mod Listed
pub mod Flow
