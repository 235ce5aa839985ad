mod Kept
mod Arguments
mod Lists
mod Scoped
