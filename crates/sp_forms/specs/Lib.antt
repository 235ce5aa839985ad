pub mod Cursors
pub mod Grammars
pub mod Readers
pub mod Answers
