mod Above
mod Mentions
