pub mod Denotes
pub mod Kinds
pub mod Making
pub mod Ranges
pub mod ValuesOf
