pub mod Faults
pub mod Pieces
pub mod Scanned
pub mod Scans
pub mod Spelling
pub mod Tokens
