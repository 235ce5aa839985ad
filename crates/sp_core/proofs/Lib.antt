mod InstanceLemmas
pub mod TreeLemmas
pub mod Elements
pub mod Agree
pub mod Fronts
pub mod Looks
pub mod Types
pub mod Bindings
pub mod EffectsTyped
pub mod Levels
pub mod RankLemmas
pub mod Unique
pub mod OneResult
pub mod NewStates
pub mod StatesTyped
pub mod Steps
pub mod Lists
pub mod StateLemmas
