mod LeakyLemmas
mod QuarrelLemmas
