pub mod Compared
pub mod Json
