pub mod Brackets
pub mod Classes
pub mod Globs
pub mod Grammar
pub mod Laws
pub mod Patterns
pub mod Places
