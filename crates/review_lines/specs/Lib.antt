pub mod Compared
pub mod Lines
pub mod Listed
pub mod Searched
pub mod Stat
