mod ArgumentsApart
pub mod Steps
pub mod FactLemmas
mod QuestionLemmas
mod PoolTerms
