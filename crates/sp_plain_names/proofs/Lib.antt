pub mod Tokens
pub mod Forms
pub mod Trees
pub mod Scopes
pub mod Specifications
pub mod Systems
