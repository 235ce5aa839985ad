pub mod App
pub mod Given
pub mod Meant
pub mod Size
pub mod Verb
pub mod Words
