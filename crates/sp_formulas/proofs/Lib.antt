pub mod Alls
pub mod Lists
pub mod TupleLemmas
pub mod GeneratedLemmas
pub mod WayLemmas
pub mod TypedLemmas
pub mod DraftLemmas
